-- What each call of the core appends to the record that it finds.
use Rattle.std.proofs.Common.{◌≡◌, ◌≤◌, ◌+◌, ℕ, true, false, Some, None, nat_eq, Result, Ok, Err}
use Rattle.std.proofs.Common.{[], ◌∷◌, length, refl, sym, subst, arith, append-nil}
use Rattle.std.proofs.Common.{length-append}
use Rattle.std.specs.Prelude.{if◌then◌else◌, OnOk, OnErr}
use Rattle.std.specs.List.{AllByRecursion}
use Rattle.sg_paths.specs.Operations.{PlainOp}
use Rattle.index_core.specs.declared.limits.TheConstants.{BATCH_OPERATIONS}
use Rattle.index_core.specs.Histories.{HistoryEvent, accept, freeze, merge_begin, merge_drop}
use Rattle.index_core.specs.Histories.{view_end, Record, Merge}
use Rattle.index_core.specs.Records.{with_event, accepted, frozen, buffered, next_generation}
use Rattle.index_core.specs.Records.{next_merge, open_merges}
use Rattle.index_core.specs.Merges.{merge_plan}
use Rattle.index_core.specs.Calls.{with_operation, after_freeze, after_accept, after_begin}
use Rattle.index_core.specs.Calls.{after_end, view_of_all, beginning, released_by_end}
use Rattle.index_core.specs.MergeCalls.{after_begin_of, after_begin_merge, ending_merge}
use Rattle.index_core.specs.MergeCalls.{released_by_merge, after_commit, after_drop}
use Rattle.index_core.proofs.ListLemmas.{all_both}
use Rattle.index_shared.specs.Sections.{caller_of, Extends}
use Rattle.index_shared.proofs.ExtendsLemmas.{extends_same, extends_on}
use Rattle.index_shared.proofs.OwnMergeLemmas.{open_merges-after_accept, open_merges-after_begin}
use Rattle.index_shared.proofs.OwnMergeLemmas.{open_merges-after_end}

-- ---- what a call appends

-- a later record, by at most so many events of one caller
pub record OwnMore (c most : ℕ) (r s : Record) : Type 0 where
  pub later : Extends r s
  pub few : length later.events ≤ most
  pub own_alone : AllByRecursion (λ e. caller_of e ≡ c) later.events

pub none_more : (c most : ℕ) (r : Record) → OwnMore c most r r
none_more c most r = record {
  later = extends_same r;
  few = omega arith;
  own_alone = tt;
}

-- more may be appended
pub at_most : (c m n : ℕ) (r s : Record) → m ≤ n → OwnMore c m r s → OwnMore c n r s
at_most c m n r s less more = record {
  later = more.later;
  few = let few = more.few in omega (arith, less, few);
  own_alone = more.own_alone;
}

pub more_on : (c m n : ℕ) (r s t : Record) → OwnMore c m r s → OwnMore c n s t
    → OwnMore c (m + n) r t
more_on c m n r s t one two =
    let first = one.later.events in
    let second = two.later.events in
    record {
      later = extends_on r s t one.later two.later;
      few = (let both = length-append first second in
          let a = one.few in
          let b = two.few in omega (arith, both, a, b));
      own_alone = all_both (λ e. caller_of e ≡ c) first second one.own_alone two.own_alone;
    }

pub one_event : (c : ℕ) (r : Record) (e : HistoryEvent) → caller_of e ≡ c
    → OwnMore c 1 r (with_event r e)
one_event c r e own = record {
  later = record {
    events = e ∷ [];
    operations = [];
    history_is = refl;
    journal_is = sym (append-nil r.journal);
  };
  few = omega arith;
  own_alone = (own, tt);
}

pub freeze_more : (c : ℕ) (r : Record) → OwnMore c 1 r (after_freeze c r)
freeze_more c r =
    let event = freeze c (next_generation r) (frozen r + 1) (accepted r) in
    elim (nat_eq (buffered r) 0) as (λ none.
    OwnMore c 1 r (if none then r else with_event r event)) [
      | true ↦ none_more c 1 r
      | false ↦ one_event c r event refl
    ]

pub accept_more : (c : ℕ) (operation : PlainOp) (r : Record)
    → OwnMore c 2 r (after_accept c operation r)
accept_more c operation r =
    let added = with_operation c operation r in
    let one : OwnMore c 1 r added = record {
      later = record {
        events = accept c (accepted r + 1) ∷ [];
        operations = operation ∷ [];
        history_is = refl;
        journal_is = refl;
      };
      few = omega arith;
      own_alone = (refl, tt);
    } in
    elim (nat_eq (buffered added) BATCH_OPERATIONS) as (λ full.
    OwnMore c 2 r (if full then after_freeze c added else added)) [
      | true ↦ more_on c 1 1 r added (after_freeze c added) one (freeze_more c added)
      | false ↦ at_most c 1 2 r added (omega arith) one
    ]

pub begin_more : (c : ℕ) (r : Record) → OwnMore c 2 r (after_begin c r)
begin_more c r =
    let all = after_freeze c r in
    more_on c 1 1 r all (after_begin c r) (freeze_more c r)
    (one_event c all (beginning (view_of_all c all)) refl)

pub end_more : (c view : ℕ) (r : Record) → OwnMore c 1 r (after_end c view r)
end_more c view r = one_event c r (view_end c view (released_by_end c view r)) refl

pub begin_merge_more : (c : ℕ) (r : Record) → OwnMore c 1 r (after_begin_merge c r)
begin_merge_more c r =
    elim (merge_plan r) as (λ plan. OwnMore c 1 r (after_begin_of c r plan)) [
      | None ↦ none_more c 1 r
      | Some gens ↦ one_event c r (merge_begin c (next_merge r) gens) refl
    ]

pub commit_more : (c : ℕ) (m : Merge) (r : Record) → OwnMore c 1 r (after_commit c m r)
commit_more c m r = one_event c r (ending_merge c m r (released_by_merge c m r)) refl

pub drop_more : (c : ℕ) (m : Merge) (r : Record) → OwnMore c 1 r (after_drop c m r)
drop_more c m r = one_event c r (merge_drop c m.merge) refl

-- ---- what a call leaves, by its answer

-- what holds of what a call makes, and of what it found, holds of what it leaves
by_answer : {P E : Type 0} (Q : Record → Type 0) (result : Result P E) (made found later : Record)
    → OnOk result (later ≡ made) → OnErr result (later ≡ found) → Q made → Q found → Q later
by_answer Q (Ok p) made found later ok err after before = subst Q (sym ok) after
by_answer Q (Err e) made found later ok err after before = subst Q (sym err) before

-- a call that begins and closes no merge
pub record LeavesMerges (c : ℕ) (found later : Record) : Type 0 where
  pub merges : open_merges later ≡ open_merges found
  pub more : OwnMore c 3 found later

leaves_all : (c : ℕ) (found : Record) → LeavesMerges c found found
leaves_all c found = record { merges = refl; more = none_more c 3 found }

pub accept_leaves : {E : Type 0} (c : ℕ) (operation : PlainOp) (result : Result ℕ E)
    (found later : Record) → OnOk result (later ≡ after_accept c operation found)
    → OnErr result (later ≡ found) → LeavesMerges c found later
accept_leaves c operation result found later ok err =
    let made = after_accept c operation found in
    by_answer (LeavesMerges c found) result made found later ok err (record {
      merges = open_merges-after_accept c operation found;
      more = at_most c 2 3 found made (omega arith) (accept_more c operation found);
    }) (leaves_all c found)

pub begin_leaves : {P E : Type 0} (c : ℕ) (result : Result P E) (found later : Record)
    → OnOk result (later ≡ after_begin c found) → OnErr result (later ≡ found)
    → LeavesMerges c found later
begin_leaves c result found later ok err =
    let made = after_begin c found in
    by_answer (LeavesMerges c found) result made found later ok err (record {
      merges = open_merges-after_begin c found;
      more = at_most c 2 3 found made (omega arith) (begin_more c found);
    }) (leaves_all c found)

pub end_leaves : (c view : ℕ) (found later : Record) → later ≡ after_end c view found
    → LeavesMerges c found later
end_leaves c view found later is = subst (LeavesMerges c found) (sym is) (record {
  merges = open_merges-after_end c view found;
  more = at_most c 1 3 found (after_end c view found) (omega arith) (end_more c view found);
})

pub begin_merge_leaves : {P E : Type 0} (c : ℕ) (result : Result P E) (found later : Record)
    → OnOk result (later ≡ after_begin_merge c found) → OnErr result (later ≡ found)
    → OwnMore c 3 found later
begin_merge_leaves c result found later ok err =
    let made = after_begin_merge c found in
    by_answer (OwnMore c 3 found) result made found later ok err
    (at_most c 1 3 found made (omega arith) (begin_merge_more c found)) (none_more c 3 found)

pub commit_leaves : (c : ℕ) (m : Merge) (found later : Record) → later ≡ after_commit c m found
    → OwnMore c 3 found later
commit_leaves c m found later is =
    subst (OwnMore c 3 found) (sym is)
    (at_most c 1 3 found (after_commit c m found) (omega arith) (commit_more c m found))

pub drop_leaves : (c : ℕ) (m : Merge) (found later : Record) → later ≡ after_drop c m found
    → OwnMore c 3 found later
drop_leaves c m found later is =
    subst (OwnMore c 3 found) (sym is)
    (at_most c 1 3 found (after_drop c m found) (omega arith) (drop_more c m found))
