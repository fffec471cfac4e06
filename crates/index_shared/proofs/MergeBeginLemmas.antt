-- A merge that a handle begins: which one, and what the handle has open then.
use Rattle.std.proofs.Common.{◌≡◌, ◌<◌, ℕ, true, nat_eq, not, Option, Some, None, Result, Ok, Err}
use Rattle.std.proofs.Common.{List, ◌∷◌, [], ◌++◌, refl, sym, ap, ◌∙◌, subst, arith, append-nil}
use Rattle.std.specs.Prelude.{IfOk, OnOk, OnErr, Contains, option_map}
use Rattle.std.specs.List.{AllByRecursion, filter_map}
use Rattle.std.specs.Option.{IfSome, option_to_list}
use Rattle.std.proofs.lemmas.Bool.Decides.{nat_tests}
use Rattle.std.proofs.lemmas.List.Elements.{Contains-append_left}
use Rattle.segment.specs.Views.{PlainParts}
use Rattle.index_core.specs.Histories.{Record, Merge, is_among, closed_merge}
use Rattle.index_core.specs.Records.{next_merge, begun_merges, open_merges}
use Rattle.index_core.specs.Merges.{merge_plan}
use Rattle.index_core.specs.LegalHistories.{IsLegal}
use Rattle.index_core.specs.MergeCalls.{merge_of, next_merge_by, merge_begun_by, after_begin_of}
use Rattle.index_core.specs.MergeCalls.{after_begin_merge, without_merge, AreMergeOf}
use Rattle.index_core.proofs.KnownLemmas.{legal_are_known}
use Rattle.index_core.proofs.KnownMergeLemmas.{next_not_closed}
use Rattle.index_core.proofs.ListLemmas.{all_filter}
use Rattle.index_core.proofs.MergesLemmas.{frozen_after-is}
use Rattle.index_core.proofs.OpenMergeLemmas.{new_merge, open_merges-begin}
use Rattle.index_core.proofs.SoundRecordLemmas.{legal_sound}
use Rattle.index_shared.specs.Sections.{HandleState, seen_by, having, FindsRecord}
use Rattle.index_shared.specs.SharedCalls.{MergeBegun}
use Rattle.index_shared.specs.OwnViews.{merges_by, HasMerge}
use Rattle.index_shared.proofs.HasMergeLemmas.{has_begun}
use Rattle.index_shared.proofs.ListLemmas.{in_filtered, without_newest}
use Rattle.index_shared.proofs.MergeCallLemmas.{merges_same, merges_more}
use Rattle.index_shared.proofs.OwnMergeLemmas.{own_merges_stay}

-- the merges of the caller once the planned one has begun
planned_more : (h : HandleState) (found later : Record) → FindsRecord h found → IsLegal found
    → (plan : Option (List ℕ)) → later ≡ after_begin_of h.number found plan
    → merges_by h.number later
    ≡ merges_by h.number (seen_by h)
    ++ option_to_list (option_map (next_merge_by h.number found) plan)
planned_more h found later finds legal None is =
    merges_same h found later finds legal (ap (λ (r : Record). open_merges r) is)
    ∙ sym (append-nil (merges_by h.number (seen_by h)))
planned_more h found later finds legal (Some gens) is =
    let m = next_merge_by h.number found gens in
    let upto : new_merge found.history h.number (next_merge found) gens ≡ m =
    ap (λ (n : ℕ).
    record { caller = h.number; merge = next_merge found; upto = n; generations = gens })
    (frozen_after-is 0 found.history) in
    merges_more h found later finds legal m refl
    (ap (λ (r : Record). open_merges r) is
    ∙ open_merges-begin found.history h.number (next_merge found) gens
    (next_not_closed found (legal_sound found legal).plain.merges)
    ∙ ap (λ (x : Merge). open_merges found ++ x ∷ []) upto)

-- all that the caller has open were begun before the next
before_next : (h : HandleState) (found : Record) → FindsRecord h found → IsLegal found
    → AllByRecursion (λ m. m.merge < next_merge found) (merges_by h.number (seen_by h))
before_next h found finds legal =
    let P : Merge → Type 0 = λ m. m.merge < next_merge found in
    subst (AllByRecursion P) (own_merges_stay h found finds legal)
    (all_filter P (λ m. nat_eq m.caller h.number) (open_merges found)
    (all_filter P (λ m. not (is_among m.merge (filter_map closed_merge found.history)))
    (begun_merges found) (legal_are_known found legal).begun))

-- so the new one is new
new_alone : {P : Type 0} (h : HandleState) (found later : Record) → FindsRecord h found
    → IsLegal found → (plan : Option (List ℕ)) (job : Option P) (merge : P → Merge)
    → later ≡ after_begin_of h.number found plan
    → option_map merge job ≡ option_map (next_merge_by h.number found) plan
    → IfSome job (λ p.
    without_merge (merge p).merge (merges_by h.number later) ≡ merges_by h.number (seen_by h))
new_alone h found later finds legal plan None merge is same = tt
new_alone h found later finds legal None (Some p) merge is same =
    let no : Some (merge p) ≡ None = same in absurd cc
new_alone h found later finds legal (Some gens) (Some p) merge is same =
    let m = next_merge_by h.number found gens in
    let one : Some (merge p) ≡ Some m = same in
    let named : merge p ≡ m = cc in
    let number : (merge p).merge ≡ next_merge found = ap (λ (x : Merge). x.merge) named in
    ap (λ (n : ℕ). without_merge n (merges_by h.number later)) number
    ∙ ap (without_merge (next_merge found))
    (planned_more h found later finds legal (Some gens) is)
    ∙ without_newest (λ (x : Merge). x.merge) (next_merge found) (merges_by h.number (seen_by h))
    m (before_next h found finds legal) refl

-- by the answer of the call
pub record BeginsMerge {P E : Type 0} (h : HandleState) (result : Result (Option P) E)
    (merge : P → Merge) (later : Record) : Type 0 where
  pub merges : IfOk result (λ job. merges_by h.number later
      ≡ merges_by h.number (seen_by h) ++ option_to_list (option_map merge job))
  pub fresh : IfOk result (λ job. IfSome job (λ p.
      without_merge (merge p).merge (merges_by h.number later) ≡ merges_by h.number (seen_by h)))
  pub no_merge : OnErr result (merges_by h.number later ≡ merges_by h.number (seen_by h))
  pub still : (m : Merge) → Contains (merges_by h.number (seen_by h)) m
      → Contains (merges_by h.number later) m

pub begins_merge : {P E : Type 0} (h : HandleState) (c : ℕ) (result : Result (Option P) E)
    (merge : ℕ → P → Merge) (found later : Record) → c ≡ h.number → FindsRecord h found
    → IsLegal found
    → IfOk result (λ job. option_map (merge c) job ≡ merge_begun_by c found)
    → OnOk result (later ≡ after_begin_merge c found) → OnErr result (later ≡ found)
    → BeginsMerge h result (merge h.number) later
begins_merge h c (Ok job) merge found later mine finds legal begun ok err =
    let same : option_map (merge h.number) job ≡ merge_begun_by h.number found =
    subst (λ (n : ℕ). option_map (merge n) job ≡ merge_begun_by n found) mine begun in
    let more : merges_by h.number later
    ≡ merges_by h.number (seen_by h) ++ option_to_list (option_map (merge h.number) job) =
    planned_more h found later finds legal (merge_plan found)
    (ok ∙ ap (λ (n : ℕ). after_begin_merge n found) mine)
    ∙ ap (λ (m : Option Merge). merges_by h.number (seen_by h) ++ option_to_list m) (sym same) in
    record {
      merges = more;
      fresh = new_alone h found later finds legal (merge_plan found) job (merge h.number)
          (ok ∙ ap (λ (n : ℕ). after_begin_merge n found) mine) same;
      no_merge = tt;
      still = λ m there. subst (λ (ms : List Merge). Contains ms m) (sym more)
          (Contains-append_left (merges_by h.number (seen_by h))
          (option_to_list (option_map (merge h.number) job)) m there);
    }
begins_merge h c (Err e) merge found later mine finds legal begun ok err =
    let same : merges_by h.number later ≡ merges_by h.number (seen_by h) =
    merges_same h found later finds legal (ap (λ (r : Record). open_merges r) err) in
    record {
      merges = tt;
      fresh = tt;
      no_merge = same;
      still = λ m there. subst (λ (ms : List Merge). Contains ms m) (sym same) there;
    }

-- what it answers
pub merge_begun : {P E : Type 0} (h : HandleState) (c : ℕ) (result : Result (Option P) E)
    (merge : ℕ → P → Merge) (found later : Record) → c ≡ h.number → FindsRecord h found
    → IsLegal found → IfOk result (λ job. option_map (merge c) job ≡ merge_begun_by c found)
    → OnOk result (later ≡ after_begin_merge c found)
    → IfOk result (λ job. MergeBegun h (option_map (merge h.number) job) later)
merge_begun h c (Ok job) merge found later mine finds legal begun ok = record {
  found = found;
  finds = finds;
  legal = legal;
  begun = subst (λ (n : ℕ). option_map (merge n) job ≡ merge_begun_by n found) mine begun;
  after = ok ∙ ap (λ (n : ℕ). after_begin_merge n found) mine;
}
merge_begun h c (Err e) merge found later mine finds legal begun ok = tt

job_has : (h : HandleState) (c : ℕ) (later : Record) (job : Option PlainParts) → c ≡ h.number
    → IsLegal later → IfSome job (AreMergeOf later)
    → IfSome job (λ p. Contains (open_merges later) (merge_of c p))
    → IfSome job (HasMerge (having h later))
job_has h c later None mine legal parts begun = tt
job_has h c later (Some p) mine legal parts begun =
    has_begun h later p legal parts
    (in_filtered (λ (m : Merge). nat_eq m.caller h.number) (open_merges later)
    (merge_of h.number p) (itself h.number)
    (subst (λ (n : ℕ). Contains (open_merges later) (merge_of n p)) mine begun))
  where
    itself : (n : ℕ) → nat_eq n n ≡ true
    itself n = grind (arith, nat_tests)

-- its handle has it
pub begun_has : {E : Type 0} (h new : HandleState) (c : ℕ) (later : Record)
    (result : Result (Option PlainParts) E) → new ≡ having h later → c ≡ h.number
    → IsLegal later → IfOk result (λ job. IfSome job (AreMergeOf later))
    → IfOk result (λ job. IfSome job (λ p. Contains (open_merges later) (merge_of c p)))
    → IfOk result (λ job. IfSome job (HasMerge new))
begun_has h new c later (Ok job) is mine legal parts begun =
    subst (λ (x : HandleState). IfSome job (HasMerge x)) (sym is)
    (job_has h c later job mine legal parts begun)
begun_has h new c later (Err e) is mine legal parts begun = tt
