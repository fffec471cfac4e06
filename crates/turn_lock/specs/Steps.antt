-- What each kind of atomic step makes known to the seat that takes it. Source: this project's own.
-- No public clause cites it.
use Rattle.std.specs.Prelude.{◌≡◌, ◌≢◌, ◌<◌, ◌≤◌, ◌+◌, ◌==◌, ℕ, Bool, true, false, leb}
use Rattle.std.specs.Prelude.{List, [], ◌∷◌, ◌++◌, length, Option, Some, None}
use Rattle.std.specs.Prelude.{if◌then◌else◌}
use Rattle.std.specs.Bool.{MatchBool}
use Rattle.atomic_table.specs.Table.{Step, Me}
use Rattle.turn_lock.specs.declared.seat_view.SeatView.{SeatView}
use Rattle.turn_lock.specs.Handles.{IsPrefix}
use Rattle.turn_lock.specs.Rule.{At, Each, KeepsBoth}

-- whether it is this ticket
abbrev pub is_at : Option ℕ → ℕ → Bool
is_at None n = false
is_at (Some t) n = t == n

-- one handle more is made
abbrev pub one_more : Option ℕ → Option ℕ
one_more None = None
one_more (Some m) = Some (m + 1)

module _ {E O : Type 0} where
  -- a seat that has observed nothing and has no ticket: of a handle, or spent
  abbrev pub fresh : Option ℕ → ℕ → SeatView E O
  fresh number seats = record {
    number = number;
    made = None;
    seats = seats;
    ticket = None;
    turn = false;
    history = [];
    journal = [];
    old_history = [];
    old_journal = [];
    met_history = [];
    met_journal = [];
  }

  -- the seat that makes the handles, before the first
  abbrev pub maker : ℕ → SeatView E O
  maker seats = record (fresh None seats) { made = Some 0 }

  -- the same with one handle more
  abbrev pub maker_after : SeatView E O → SeatView E O
  maker_after v = record v { made = one_more v.made }

  -- a note: a copy of what a seat has observed, with no number
  abbrev pub note : SeatView E O → SeatView E O
  note v = record (fresh None v.seats) {
    history = v.history;
    journal = v.journal;
    old_history = v.history;
    old_journal = v.journal;
  }

  -- how much a seat has observed
  abbrev pub size : SeatView E O → ℕ
  size v = length v.history + length v.journal

  -- a seat that took in a note: it has observed the longer of the two records, and keeps both
  abbrev pub joined : SeatView E O → SeatView E O → SeatView E O
  joined v w = record v {
    history = if leb (size v) (size w) then w.history else v.history;
    journal = if leb (size v) (size w) then w.journal else v.journal;
    old_history = v.history;
    old_journal = v.journal;
    met_history = w.history;
    met_journal = w.journal;
  }

  -- a draw: the seat has the number found as its ticket
  abbrev pub Draws : {V : Type 0} → Step (Option V) → Me (Option V) (SeatView E O) → ℕ
      → Me (Option V) (SeatView E O) → Type 0
  Draws s v found w = (w.0 ≡ record v.0 { ticket = Some found }) × (w.1 ≡ v.1)

  -- the turn is passed on: the seat has neither ticket nor turn, and the slot is at home
  abbrev pub PassesOn : {V : Type 0} → Step (Option V) → Me (Option V) (SeatView E O) → ℕ
      → Me (Option V) (SeatView E O) → Type 0
  PassesOn s v found w = (w.0 ≡ record v.0 { ticket = None; turn = false }) × (w.1 ≡ [])

  -- a look at the count: the seat stays as it is, and a meeting is known to have kept both records
  abbrev pub Tells : {V : Type 0} → (E → ℕ) → Step (Option V) → Me (Option V) (SeatView E O) → ℕ
      → Me (Option V) (SeatView E O) → Type 0
  Tells caller s v found w = (w ≡ v) × KeepsBoth caller v.0

  module _ {V : Type 0} (history : V → List E) (journal : V → List O) (caller : E → ℕ) where
    -- the value's record continues what the seat has observed, by no event of its own, and each
    -- event is a handle's
    pub record Follows (v : SeatView E O) (y : V) : Type 0 where
      pub later_history : IsPrefix v.history (history y)
      pub later_journal : IsPrefix v.journal (journal y)
      pub others : (i : ℕ) (e : E) → length v.history ≤ i → At (history y) i e
          → v.number ≢ Some (caller e)
      pub callers : Each (history y) (λ i e. caller e < v.seats)

    -- the value's record continues what the seat has observed, by events of its own alone
    pub record Adds (v : SeatView E O) (y : V) : Type 0 where
      pub events : List E
      pub later_history : history y ≡ v.history ++ events
      pub later_journal : IsPrefix v.journal (journal y)
      pub own_alone : Each events (λ i e. v.number ≡ Some (caller e))

    -- a seat that has observed the value's record
    abbrev pub learned : SeatView E O → V → SeatView E O
    learned v y = record v {
      history = history y;
      journal = journal y;
      old_history = history y;
      old_journal = journal y;
      met_history = [];
      met_journal = [];
    }

    -- a look: where the ticket is being served, the seat has the turn and the slot, and has
    -- observed the record of the value there
    abbrev pub Looks : Step (Option V) → Me (Option V) (SeatView E O) → ℕ
        → Me (Option V) (SeatView E O) → Type 0
    Looks s v found w = MatchBool (is_at v.0.ticket found)
        ((y : V) × (w.1 ≡ (0, Some y) ∷ v.1) × (w.0 ≡ record (learned v.0 y) { turn = true })
        × Follows v.0 y)
        (w ≡ v)

    -- a count: the seat has observed the record of the value in its slot
    abbrev pub Counts : Step (Option V) → Me (Option V) (SeatView E O) → ℕ
        → Me (Option V) (SeatView E O) → Type 0
    Counts s v found w = (w.1 ≡ v.1) × ((y : V) → v.1 ≡ (0, Some y) ∷ [] → w.0 ≡ learned v.0 y)
