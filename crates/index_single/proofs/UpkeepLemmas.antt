-- What is open stays so under a flush, and under its events.
use Rattle.std.proofs.Common.{◌≡◌, ℕ, List, [], ◌∷◌, ◌++◌, refl, sym, ap, ◌∙◌, append_assoc}
use Rattle.std.proofs.lemmas.List.{append-nil}
use Rattle.std.specs.Prelude.{fold}
use Rattle.std.specs.List.{AllByRecursion}
use Rattle.index_core.specs.Histories.{HistoryEvent, accept, freeze, begin, built}
use Rattle.index_core.specs.Histories.{live_docs_updated, merge_begin, merge_end, merge_drop}
use Rattle.index_core.specs.Histories.{view_end, Record, open_views, open_merges}
use Rattle.index_core.specs.Records.{frozen, current}
use Rattle.index_core.specs.Calls.{after_freeze}
use Rattle.index_core.specs.CurrentPieces.{after_built}
use Rattle.index_core.proofs.EventLemmas.{open_merges-skip}
use Rattle.index_core.proofs.ViewLemmas.{open_views-skip, open_views-after_freeze}
use Rattle.index_core.proofs.ViewLemmas.{open_views-after_built, open_views-after_lived}
use Rattle.index_shared.specs.Offers.{IsUpkeep, refreshed, after_flush}
use Rattle.index_shared.proofs.OwnMergeLemmas.{open_merges-after_freeze, open_merges-after_built}
use Rattle.index_shared.proofs.OwnMergeLemmas.{open_merges-after_lived}

-- the same views and merges are open
pub record SameOpen (h h' : List HistoryEvent) : Type 0 where
  pub views : open_views h' ≡ open_views h
  pub merges : open_merges h' ≡ open_merges h

same_on : (h h' h'' : List HistoryEvent) → SameOpen h h' → SameOpen h' h'' → SameOpen h h''
same_on h h' h'' p q = record { views = q.views ∙ p.views; merges = q.merges ∙ p.merges }

-- ---- events

upkeep_event : (h : List HistoryEvent) (e : HistoryEvent) → IsUpkeep e
    → SameOpen h (h ++ e ∷ [])
upkeep_event h (freeze c g f u) is = record {
  views = open_views-skip h (freeze c g f u) refl refl;
  merges = open_merges-skip h (freeze c g f u) (λ k. refl) refl;
}
upkeep_event h (built c g) is = record {
  views = open_views-skip h (built c g) refl refl;
  merges = open_merges-skip h (built c g) (λ k. refl) refl;
}
upkeep_event h (live_docs_updated c g u) is = record {
  views = open_views-skip h (live_docs_updated c g u) refl refl;
  merges = open_merges-skip h (live_docs_updated c g u) (λ k. refl) refl;
}
upkeep_event h (accept c n) is = absurd is
upkeep_event h (begin c v u gs) is = absurd is
upkeep_event h (merge_begin c m gs) is = absurd is
upkeep_event h (merge_end c m i gone) is = absurd is
upkeep_event h (merge_drop c m) is = absurd is
upkeep_event h (view_end c v gone) is = absurd is

pub upkeep_same : (h es : List HistoryEvent) → AllByRecursion IsUpkeep es → SameOpen h (h ++ es)
upkeep_same h [] all = record {
  views = ap open_views (append-nil h);
  merges = ap open_merges (append-nil h);
}
upkeep_same h (e ∷ es) all =
    let first = upkeep_event h e all.0 in
    let later = upkeep_same (h ++ e ∷ []) es all.1 in
    let whole : h ++ e ∷ es ≡ (h ++ e ∷ []) ++ es = sym (append_assoc h (e ∷ []) es) in
    record {
      views = ap open_views whole ∙ later.views ∙ first.views;
      merges = ap open_merges whole ∙ later.merges ∙ first.merges;
    }

-- ---- a flush

refreshed_same : (c upto : ℕ) (r : Record) (gs : List ℕ)
    → SameOpen r.history (fold (refreshed c upto) r gs).history
refreshed_same c upto r [] = record { views = refl; merges = refl }
refreshed_same c upto r (g ∷ gs) =
    let has = after_built c g r in
    let s = refreshed c upto r g in
    same_on r.history s.history (fold (refreshed c upto) s gs).history
    (record {
      views = open_views-after_lived c g upto has ∙ open_views-after_built c g r;
      merges = open_merges-after_lived c g upto has ∙ open_merges-after_built c g r;
    }) (refreshed_same c upto s gs)

pub flush_same : (c : ℕ) (r : Record) → SameOpen r.history (after_flush c r).history
flush_same c r =
    let s = after_freeze c r in
    same_on r.history s.history (after_flush c r).history
    (record {
      views = open_views-after_freeze c r;
      merges = open_merges-after_freeze c r;
    }) (refreshed_same c (frozen s) s (current s))
