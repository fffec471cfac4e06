-- What one event more leaves as it was: the merges, the generations in use, the open views and
-- merges.
use Rattle.std.proofs.Common.{◌≡◌, ℕ, None, List, [], ◌∷◌, ◌++◌, refl, ap, ◌∙◌}
use Rattle.std.proofs.lemmas.List.{append-nil}
use Rattle.index_core.specs.Histories.{HistoryEvent, accept, freeze, begin, built}
use Rattle.index_core.specs.Histories.{live_docs_updated, merge_begin, merge_end, merge_drop}
use Rattle.index_core.specs.Histories.{view_end, Merge, begun_merges, merges_from, ended_merge}
use Rattle.index_core.specs.Histories.{closed_merge, replaced, drawn_generation, current}
use Rattle.index_core.specs.Histories.{open_merges}
use Rattle.index_core.proofs.HistoryLemmas.{skips}

-- the merges that one event begins, where so many operations were frozen before it
abbrev pub begun_by : ℕ → HistoryEvent → List Merge
begun_by n e = merges_from n (e ∷ [])

-- how many operations are frozen at the end of events
abbrev pub frozen_after : ℕ → List HistoryEvent → ℕ
frozen_after n [] = n
frozen_after n (freeze c g f u ∷ h) = frozen_after u h
frozen_after n (e ∷ h) = frozen_after n h

pub merges-more : (n : ℕ) (h : List HistoryEvent) (e : HistoryEvent)
    → merges_from n (h ++ e ∷ []) ≡ merges_from n h ++ begun_by (frozen_after n h) e
merges-more n [] e = refl
merges-more n (accept a b ∷ h) e = merges-more n h e
merges-more n (freeze a b f u ∷ h) e = merges-more u h e
merges-more n (begin a b u gs ∷ h) e = merges-more n h e
merges-more n (built a b ∷ h) e = merges-more n h e
merges-more n (live_docs_updated a b d ∷ h) e = merges-more n h e
merges-more n (merge_begin a b gs ∷ h) e =
    ap (λ (ms : List Merge).
    record { caller = a; merge = b; upto = n; generations = gs } ∷ ms) (merges-more n h e)
merges-more n (merge_end a b i r ∷ h) e = merges-more n h e
merges-more n (merge_drop a b ∷ h) e = merges-more n h e
merges-more n (view_end a b r ∷ h) e = merges-more n h e

-- an event that begins no merge leaves those that were begun
pub merges-skip : (h : List HistoryEvent) (e : HistoryEvent) → ((n : ℕ) → begun_by n e ≡ [])
    → begun_merges (h ++ e ∷ []) ≡ begun_merges h
merges-skip h e none =
    merges-more 0 h e
    ∙ ap (λ (ms : List Merge). begun_merges h ++ ms) (none (frozen_after 0 h))
    ∙ append-nil (begun_merges h)

pub replaced-skip : (h : List HistoryEvent) (e : HistoryEvent) → ((n : ℕ) → begun_by n e ≡ [])
    → ended_merge e ≡ None → replaced (h ++ e ∷ []) ≡ replaced h
replaced-skip h e none ends = rw (merges-skip h e none, skips ended_merge h e ends) refl

pub current-skip : (h : List HistoryEvent) (e : HistoryEvent) → ((n : ℕ) → begun_by n e ≡ [])
    → ended_merge e ≡ None → drawn_generation e ≡ None → current (h ++ e ∷ []) ≡ current h
current-skip h e none ends draws =
    rw (replaced-skip h e none ends, skips drawn_generation h e draws) refl

pub open_merges-skip : (h : List HistoryEvent) (e : HistoryEvent)
    → ((n : ℕ) → begun_by n e ≡ []) → closed_merge e ≡ None
    → open_merges (h ++ e ∷ []) ≡ open_merges h
open_merges-skip h e none closes = rw (merges-skip h e none, skips closed_merge h e closes) refl
