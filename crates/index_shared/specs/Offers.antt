-- What an offer does, to one record and through a handle that is not alone: it freezes what is
-- buffered, and each current generation gets its segment and its live docs. Source: Lucene's
-- IndexWriter, whose segments are written and whose deletes are resolved beside its callers.
use Rattle.std.specs.Prelude.{◌≡◌, ◌≤◌, ◌⊎◌, ⊤, ℕ, ◌+◌, Bool, true, false, not, if◌then◌else◌}
use Rattle.std.specs.Prelude.{List, [], ◌∷◌, ◌++◌, length, filter, fold, count_by}
use Rattle.std.specs.List.{AllByRecursion}
use Rattle.turn_lock.specs.Handles.{own}
use Rattle.index_core.specs.Histories.{HistoryEvent, freeze, built, live_docs_updated, Record}
use Rattle.index_core.specs.Histories.{is_among}
use Rattle.index_core.specs.Records.{frozen, current}
use Rattle.index_core.specs.Generations.{applied, is_built}
use Rattle.index_core.specs.LegalHistories.{IsLegal}
use Rattle.index_core.specs.Calls.{after_freeze}
use Rattle.index_core.specs.CurrentPieces.{is_unbuilt, after_built, after_lived}
use Rattle.index_shared.specs.Sections.{caller_of, HandleState, seen_by, having, FindsRecord}
use Rattle.index_shared.specs.Sections.{Extends}

-- ---- one record, for callers that are alone with it

-- a generation gets its segment, and its live docs know the deletes of so many operations
abbrev pub refreshed : ℕ → ℕ → Record → ℕ → Record
refreshed caller upto r g = after_lived caller g upto (after_built caller g r)

-- what is buffered is frozen, and then each current generation is refreshed
abbrev pub after_flush : ℕ → Record → Record
after_flush caller r =
    let all_frozen = after_freeze caller r in
    fold (refreshed caller (frozen all_frozen)) all_frozen (current all_frozen)

-- how many current generations have no segment
abbrev pub unbuilt_count : Record → ℕ
unbuilt_count r = count_by (λ g. not (is_built r g)) (current r)

-- how many segments a flush builds
abbrev pub built_by_flush : ℕ → Record → ℕ
built_by_flush caller r = unbuilt_count (after_freeze caller r)

-- ---- a handle among others

-- how many segments a generation is due in this record: one where it is current and has none
abbrev pub segments_due : Record → ℕ → ℕ
segments_due r g = if is_unbuilt r g then 1 else 0

-- A generation is refreshed, in what a critical section finds. Where the handle has seen that
-- nothing is left to do, there is no section, and nothing changes.
pub record Refreshed (h : HandleState) (upto g count : ℕ) (h' : HandleState) : Type 0 where
  pub found : Record
  pub finds : FindsRecord h found
      ⊎ ((found ≡ seen_by h) × (refreshed h.number upto found g ≡ found))
  pub legal : IsLegal found
  pub counted : count ≡ segments_due found g
  pub after : h' ≡ having h (refreshed h.number upto found g)

-- generations are refreshed one after another, and so many segments are built
abbrev pub Refreshes : HandleState → ℕ → List ℕ → ℕ → HandleState → Type 0
Refreshes h upto [] count h' = (count ≡ 0) × (h' ≡ h)
Refreshes h upto (g ∷ gs) count h' =
    (next : HandleState) × (first rest : ℕ) × Refreshed h upto g first next
    × (count ≡ first + rest) × Refreshes next upto gs rest h'

-- An offer: its first critical section freezes what is buffered in the record that it finds, and
-- then the generations that are current there are refreshed, through all that was frozen there.
pub record Offered (h : HandleState) (count : ℕ) (h' : HandleState) : Type 0 where
  pub found : Record
  pub finds : FindsRecord h found
  pub legal : IsLegal found
  pub sections : (let first = after_freeze h.number found in
      Refreshes (having h first) (frozen first) (current first) count h')

-- ---- an offer that stops

-- a section for a generation that stopped: it changed nothing, or gave the segment alone
pub record StoppedIn (h : HandleState) (g : ℕ) (h' : HandleState) : Type 0 where
  pub found : Record
  pub finds : FindsRecord h found
  pub legal : IsLegal found
  pub after : (h' ≡ having h found) ⊎ (h' ≡ having h (after_built h.number g found))

-- generations are refreshed one after another, but not all: it stops before a section or in it
abbrev pub StopsAt : HandleState → ℕ → List ℕ → HandleState → Type 0
StopsAt h upto [] h' = h' ≡ h
StopsAt h upto (g ∷ gs) h' =
    (h' ≡ h) ⊎ (StoppedIn h g h'
    ⊎ ((next : HandleState) × (count : ℕ) × Refreshed h upto g count next
    × StopsAt next upto gs h'))

-- an offer that stopped: in its first section, where nothing may be frozen, or after it
pub record OfferStopped (h h' : HandleState) : Type 0 where
  pub found : Record
  pub finds : FindsRecord h found
  pub legal : IsLegal found
  pub sections : (let first = after_freeze h.number found in
      (h' ≡ having h found) ⊎ StopsAt (having h first) (frozen first) (current first) h')

-- ---- the events of an offer

-- an event of a flush
abbrev pub IsUpkeep : HistoryEvent → Type 0
IsUpkeep (freeze caller generation from upto) = ⊤
IsUpkeep (built caller generation) = ⊤
IsUpkeep (live_docs_updated caller generation applied) = ⊤
IsUpkeep _ = ⊥

-- a later record, with events of a flush alone: nothing was accepted, begun or ended
pub record AddsUpkeep (r later : Record) : Type 0 where
  pub events : List HistoryEvent
  pub upkeep : AllByRecursion IsUpkeep events
  pub history_is : later.history ≡ r.history ++ events
  pub journal_is : later.journal ≡ r.journal

-- of what a handle has seen since, its own events are those of a flush
pub record UpkeepAlone (h : HandleState) (seen : Record) : Type 0 where
  pub later : Extends (seen_by h) seen
  pub upkeep : AllByRecursion IsUpkeep (own caller_of h.number later.events)

-- whether it gives a generation its segment
abbrev pub is_building : HistoryEvent → Bool
is_building (built caller generation) = true
is_building _ = false

-- An offer answers how many segments it built: as many as its handle's own events since give.
abbrev pub OffersCountSegments : Type 0
OffersCountSegments =
    (h h' : HandleState) (count : ℕ) (more : List HistoryEvent) → Offered h count h'
    → h'.history ≡ h.history ++ more
    → count ≡ length (filter is_building (own caller_of h.number more))

-- ---- what an offer brings

-- a generation is up to date: it has its segment, and its live docs know the deletes of so many
-- operations; or it is no longer current
abbrev pub IsUpToDate : Record → ℕ → ℕ → Type 0
IsUpToDate r upto g =
    (is_among g (current r) ≡ false) ⊎ ((is_built r g ≡ true) × (upto ≤ applied r g))

-- After an offer each generation that was current after its first section is up to date in what the
-- handle has seen, through all that was frozen there.
abbrev pub OffersBringUpToDate : Type 0
OffersBringUpToDate =
    (h h' : HandleState) (count : ℕ) (offered : Offered h count h') → IsLegal (seen_by h')
    → (let first = after_freeze h.number offered.found in
    AllByRecursion (IsUpToDate (seen_by h') (frozen first)) (current first))
