-- What the events of a flush leave: the journal, and what is open.
use Rattle.std.proofs.Common.{◌≡◌, ◌≤◌, ◌+◌, ℕ, Bool, true, false, cond, nat_eq, None, List, []}
use Rattle.std.proofs.Common.{◌∷◌, ◌++◌, length, refl, sym, ap, ◌∙◌, subst, arith, length-append}
use Rattle.std.specs.List.{AllByRecursion, filter_map}
use Rattle.std.proofs.lemmas.List.{append-nil, append_assoc}
use Rattle.std.proofs.lemmas.List.Elements.{filter_map-append}
use Rattle.index_core.specs.Histories.{HistoryEvent, accept, freeze, begin, built}
use Rattle.index_core.specs.Histories.{live_docs_updated, merge_begin, merge_end, merge_drop}
use Rattle.index_core.specs.Histories.{view_end, Record, begun_view, ended_view, closed_merge}
use Rattle.index_core.specs.Histories.{accepted_number, merges_from}
use Rattle.index_core.specs.Records.{with_event, accepted, frozen, buffered, next_generation}
use Rattle.index_core.specs.Calls.{after_freeze}
use Rattle.index_core.specs.CurrentPieces.{is_unbuilt, after_built, is_behind, after_lived}
use Rattle.index_core.proofs.EventLemmas.{open_merges-skip}
use Rattle.index_core.proofs.ListLemmas.{all_both}
use Rattle.index_core.proofs.ViewLemmas.{open_views-skip}
use Rattle.index_shared.specs.Sections.{caller_of, Extends}
use Rattle.index_shared.specs.Offers.{refreshed, IsUpkeep}
use Rattle.index_shared.specs.Offering.{IsTended}

abbrev pub tended_extends : (c most : ℕ) (r s : Record) → IsTended c most r s → Extends r s
tended_extends c most r s p = record {
  events = p.events;
  operations = [];
  history_is = p.history_is;
  journal_is = p.journal_is ∙ sym (append-nil r.journal);
}

-- ---- chains

pub tended_same : (c most : ℕ) (r : Record) → IsTended c most r r
tended_same c most r = record {
  events = [];
  history_is = sym (append-nil r.history);
  journal_is = refl;
  few = omega arith;
  by = tt;
  upkeep = tt;
  views = refl;
  merges = refl;
}

pub tended_both : (c m n : ℕ) (r s u : Record) → IsTended c m r s → IsTended c n s u
    → IsTended c (m + n) r u
tended_both c m n r s u p q = record {
  events = p.events ++ q.events;
  history_is = q.history_is
      ∙ ap (λ (h : List HistoryEvent). h ++ q.events) p.history_is
      ∙ append_assoc r.history p.events q.events;
  journal_is = q.journal_is ∙ p.journal_is;
  few = let long = length-append p.events q.events in
      let first = p.few in let second = q.few in omega (arith, long, first, second);
  by = all_both (λ e. caller_of e ≡ c) p.events q.events p.by q.by;
  upkeep = all_both IsUpkeep p.events q.events p.upkeep q.upkeep;
  views = q.views ∙ p.views;
  merges = q.merges ∙ p.merges;
}

pub tended_few : (c m n : ℕ) (r s : Record) → m ≤ n → IsTended c m r s → IsTended c n r s
tended_few c m n r s less p = record {
  events = p.events;
  history_is = p.history_is;
  journal_is = p.journal_is;
  few = let first = p.few in omega (arith, first, less);
  by = p.by;
  upkeep = p.upkeep;
  views = p.views;
  merges = p.merges;
}

pub tended_is : (c most : ℕ) (r s u : Record) → u ≡ s → IsTended c most r s → IsTended c most r u
tended_is c most r s u is p = subst (IsTended c most r) (sym is) p

-- ---- one event

tended_event : (c : ℕ) (r : Record) (e : HistoryEvent) → caller_of e ≡ c → IsUpkeep e
    → begun_view e ≡ None → ended_view e ≡ None → ((n : ℕ) → merges_from n (e ∷ []) ≡ [])
    → closed_merge e ≡ None → IsTended c 1 r (with_event r e)
tended_event c r e by upkeep begins ends merges closes = record {
  events = e ∷ [];
  history_is = refl;
  journal_is = refl;
  few = omega arith;
  by = (by, tt);
  upkeep = (upkeep, tt);
  views = open_views-skip r.history e begins ends;
  merges = open_merges-skip r.history e merges closes;
}

pub tended_freeze : (c : ℕ) (r : Record) → IsTended c 1 r (after_freeze c r)
tended_freeze c r = by_test (nat_eq (buffered r) 0)
  where
    by_test : (b : Bool) → IsTended c 1 r (cond b r
        (with_event r (freeze c (next_generation r) (frozen r + 1) (accepted r))))
    by_test true = tended_same c 1 r
    by_test false =
        tended_event c r (freeze c (next_generation r) (frozen r + 1) (accepted r)) refl tt refl
        refl (λ n. refl) refl

pub tended_built : (c g : ℕ) (r : Record) → IsTended c 1 r (after_built c g r)
tended_built c g r = by_test (is_unbuilt r g)
  where
    by_test : (b : Bool) → IsTended c 1 r (cond b (with_event r (built c g)) r)
    by_test true = tended_event c r (built c g) refl tt refl refl (λ n. refl) refl
    by_test false = tended_same c 1 r

pub tended_lived : (c g upto : ℕ) (r : Record) → IsTended c 1 r (after_lived c g upto r)
tended_lived c g upto r = by_test (is_behind r g upto)
  where
    by_test : (b : Bool)
        → IsTended c 1 r (cond b (with_event r (live_docs_updated c g upto)) r)
    by_test true = tended_event c r (live_docs_updated c g upto) refl tt refl refl (λ n. refl) refl
    by_test false = tended_same c 1 r

pub tended_refreshed : (c upto : ℕ) (r : Record) (g : ℕ) → IsTended c 2 r (refreshed c upto r g)
tended_refreshed c upto r g =
    let m = after_built c g r in
    tended_both c 1 1 r m (after_lived c g upto m) (tended_built c g r) (tended_lived c g upto m)

-- ---- what the calls of a section leave

pub same_tended : (c : ℕ) (r s : Record) → s ≡ r → IsTended c 2 r s
same_tended c r s is = tended_is c 2 r r s is (tended_same c 2 r)

pub froze_tended : (c : ℕ) (r s : Record) → s ≡ after_freeze c r → IsTended c 2 r s
froze_tended c r s is =
    tended_is c 2 r (after_freeze c r) s is
    (tended_few c 1 2 r (after_freeze c r) (omega arith) (tended_freeze c r))

pub built_tended : (c g : ℕ) (r s : Record) → s ≡ after_built c g r → IsTended c 2 r s
built_tended c g r s is =
    tended_is c 2 r (after_built c g r) s is
    (tended_few c 1 2 r (after_built c g r) (omega arith) (tended_built c g r))

pub refreshed_tended : (c upto g : ℕ) (r s : Record) → s ≡ refreshed c upto r g → IsTended c 2 r s
refreshed_tended c upto g r s is =
    tended_is c 2 r (refreshed c upto r g) s is (tended_refreshed c upto r g)

-- ---- what they accept

none_accepted : (events : List HistoryEvent) → AllByRecursion IsUpkeep events
    → filter_map accepted_number events ≡ []
none_accepted [] all = refl
none_accepted (accept a b ∷ events) all = absurd all.0
none_accepted (freeze a b f u ∷ events) all = none_accepted events all.1
none_accepted (begin a b u gs ∷ events) all = absurd all.0
none_accepted (built a b ∷ events) all = none_accepted events all.1
none_accepted (live_docs_updated a b c ∷ events) all = none_accepted events all.1
none_accepted (merge_begin a b gs ∷ events) all = absurd all.0
none_accepted (merge_end a b i gone ∷ events) all = absurd all.0
none_accepted (merge_drop a b ∷ events) all = absurd all.0
none_accepted (view_end a b gone ∷ events) all = absurd all.0

pub tended_numbered : (c most : ℕ) (r s : Record) → IsTended c most r s
    → length r.journal ≡ accepted r → length s.journal ≡ accepted s
tended_numbered c most r s p numbered =
    let same : filter_map accepted_number s.history ≡ filter_map accepted_number r.history =
    ap (λ (h : List HistoryEvent). filter_map accepted_number h) p.history_is
    ∙ filter_map-append accepted_number r.history p.events
    ∙ ap (λ (ns : List ℕ). filter_map accepted_number r.history ++ ns)
    (none_accepted p.events p.upkeep)
    ∙ append-nil (filter_map accepted_number r.history) in
    ap (λ ops. length ops) p.journal_is ∙ numbered
    ∙ sym (ap (λ (ns : List ℕ). length ns) same)
