-- What a history says after one event more.
use Rattle.std.proofs.Common.{◌≡◌, ℕ, ◌+◌, ◌≤◌, Option, None, List, [], ◌∷◌, ◌++◌, length, take}
use Rattle.std.proofs.Common.{drop, sym, ◌∙◌, ap, arith}
use Rattle.std.specs.List.{filter_map}
use Rattle.std.proofs.lemmas.List.{append-nil, length-append, take-append-drop}
use Rattle.std.proofs.lemmas.List.Elements.{filter_map-append}
use Rattle.std.proofs.lemmas.List.Sums.{fold-append}
use Rattle.index_core.specs.Histories.{HistoryEvent, accept, freeze}
use Rattle.index_core.specs.Histories.{last_of, accepted_number, frozen_upto, accepted}
use Rattle.index_core.specs.Histories.{frozen}

-- an event that gives nothing leaves what the events give
pub skips : {X : Type 0} (f : HistoryEvent → Option X)
    (history : List HistoryEvent) (event : HistoryEvent)
    → f event ≡ None → filter_map f (history ++ event ∷ []) ≡ filter_map f history
skips f history event none =
    filter_map-append f history (event ∷ []) ∙ rw none (append-nil (filter_map f history))

pub accepted-skip : (history : List HistoryEvent) (event : HistoryEvent)
    → accepted_number event ≡ None → accepted (history ++ event ∷ []) ≡ accepted history
accepted-skip history event none =
    ap (λ (numbers : List ℕ). length numbers) (skips accepted_number history event none)

pub accepted-more : (history : List HistoryEvent) (caller seq : ℕ)
    → accepted (history ++ accept caller seq ∷ []) ≡ accepted history + 1
accepted-more history caller seq =
    ap (λ (numbers : List ℕ). length numbers)
    (filter_map-append accepted_number history (accept caller seq ∷ []))
    ∙ length-append (filter_map accepted_number history) (seq ∷ [])

-- events before others accept no more than all
pub accepted-take : (history : List HistoryEvent) (k : ℕ)
    → accepted (take k history) ≤ accepted history
accepted-take history k =
    let split : filter_map accepted_number history
    ≡ filter_map accepted_number (take k history) ++ filter_map accepted_number (drop k history) =
    ap (λ (events : List HistoryEvent). filter_map accepted_number events)
    (sym (take-append-drop k history))
    ∙ filter_map-append accepted_number (take k history) (drop k history) in
    omega (
      arith,
      ap (λ (numbers : List ℕ). length numbers) split,
      length-append (filter_map accepted_number (take k history))
          (filter_map accepted_number (drop k history)),
    )

pub frozen-skip : (history : List HistoryEvent) (event : HistoryEvent)
    → frozen_upto event ≡ None → frozen (history ++ event ∷ []) ≡ frozen history
frozen-skip history event none = ap last_of (skips frozen_upto history event none)

pub frozen-more : (history : List HistoryEvent) (caller generation from upto : ℕ)
    → frozen (history ++ freeze caller generation from upto ∷ []) ≡ upto
frozen-more history caller generation from upto =
    ap last_of (filter_map-append frozen_upto history (freeze caller generation from upto ∷ []))
    ∙ fold-append (λ _ n. n) 0 (filter_map frozen_upto history) (upto ∷ [])
