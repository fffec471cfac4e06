-- The rule of the ticket lock, which each atomic step keeps: what the three words, the slot and the
-- views of all seats have to do with one another. The words are the next ticket, the ticket that
-- is being served, and the length of the history. Source: this project's own, after the ticket lock
-- of Reed and Kanodia. No public clause cites it.
use Rattle.std.specs.Prelude.{◌≡◌, ◌<◌, ◌≤◌, ◌+◌, ◌%◌, ◌^◌, ◌⊎◌, ℕ, true, false}
use Rattle.std.specs.Prelude.{List, [], ◌∷◌, length, Option, Some, is_some}
use Rattle.std.specs.Prelude.{if◌then◌else◌, ◌≢◌}
use Rattle.std.specs.List.{sum_by}
use mathlib.Core.Option.{some, none, Option as Opt}
use lib.ListN.{get_elem?}
use Rattle.atomic_table.specs.Table.{State}
use Rattle.turn_lock.specs.declared.seat_view.SeatView.{SeatView}
use Rattle.turn_lock.specs.Handles.{IsPrefix}

-- the ticket stands less than n places behind the one that is being served
abbrev pub Waits : ℕ → ℕ → ℕ → Type 0
Waits serving n ticket = (d : ℕ) × (d < n) × (ticket ≡ (serving + d) % 2 ^ 64)

-- the place k of a list has x
abbrev pub At : {A : Type 0} → List A → ℕ → A → Type 0
At xs k x = get_elem? xs k ≡ some x

-- P holds of each place and what stands there
abbrev pub Each : {A : Type 0} → List A → (ℕ → A → Type 0) → Type 0
Each {A} xs P = (k : ℕ) (x : A) → At xs k x → P k x

-- no two places have the same f, where they have one
abbrev pub Differ : {A B : Type 0} → List A → (A → Option B) → Type 0
Differ {A} {B} xs f =
    (j k : ℕ) (b : B) (x y : A) → At xs j x → At xs k y → f x ≡ Some b → f y ≡ Some b → j ≡ k

module _ {E O : Type 0} where
  -- 1 for a seat with a ticket
  abbrev pub has_ticket : SeatView E O → ℕ
  has_ticket v = if is_some v.ticket then 1 else 0

  -- 1 for the seat of a handle
  abbrev pub has_number : SeatView E O → ℕ
  has_number v = if is_some v.number then 1 else 0

  -- what one seat has observed is a prefix of what another has
  abbrev pub Before : SeatView E O → SeatView E O → Type 0
  Before v w = IsPrefix v.history w.history × IsPrefix v.journal w.journal

  -- what a seat had observed before it last met another, and what that one had, are prefixes of
  -- what it has observed; the meeting brought no event of its own. So a meeting loses nothing, and
  -- a handle knows of all its own events without asking
  abbrev pub KeepsBoth : (E → ℕ) → SeatView E O → Type 0
  KeepsBoth caller v =
      IsPrefix v.old_history v.history × IsPrefix v.old_journal v.journal
      × IsPrefix v.met_history v.history × IsPrefix v.met_journal v.journal
      × ((i : ℕ) (e : E) → length v.old_history ≤ i → At v.history i e
      → v.number ≢ Some (caller e))

  -- the tickets that stand out are the `waiting` ones from the one being served to the next one
  pub record Tickets (next serving waiting : ℕ) (views : List (SeatView E O)) : Type 0 where
    -- counted from the ticket being served, each one comes before the next one: so nobody waits
    -- for a ticket that was served already
    pub span : next ≡ (serving + waiting) % 2 ^ 64
    pub within : Each views (λ k v. (t : ℕ) → v.ticket ≡ Some t → Waits serving waiting t)
    -- there are as many tickets as numbers between the two: so each number is somebody's turn
    pub counted : sum_by has_ticket views ≡ waiting
    -- tickets differ: so no two have the turn
    pub apart : Differ views (λ v. v.ticket)
    -- handles alone draw, and there are at most 17: so a ticket modulo 2^64 is a ticket
    pub drawn_by_handles : Each views (λ k v. is_some v.ticket ≡ true → is_some v.number ≡ true)
    pub few : sum_by has_number views ≤ 17

  -- handles and their numbers; the seat that makes them is the first, and knows how many it made
  pub record Numbers (views : List (SeatView E O)) : Type 0 where
    -- a number is below that of the seats, which each handle knows: so it names a handle
    pub seats : ℕ
    pub known : Each views (λ k v. (n : ℕ) → v.number ≡ Some n → (n < seats) × (v.seats ≡ seats))
    -- numbers differ: so an event's caller is one handle
    pub apart : Differ views (λ v. v.number)
    -- there is one maker, whose count is that of the handles, and is above each number: so the
    -- next number is new
    pub maker : Each views (λ k v. (m : ℕ) → v.made ≡ Some m
        → (k ≡ 0) × (sum_by has_number views ≡ m) × (v.seats ≡ seats))
    pub below : (m j : ℕ) (v : SeatView E O) → At views j v → v.made ≡ Some m
        → Each views (λ k w. (n : ℕ) → w.number ≡ Some n → n < m)

  -- what one seat has observed is a prefix of what another has, or the other way round
  abbrev pub InLine : SeatView E O → SeatView E O → Type 0
  InLine v w = Before v w ⊎ Before w v

  -- the handle that appended the event in place i has observed it
  pub record Author (caller : E → ℕ) (views : List (SeatView E O)) (i : ℕ) (e : E) : Type 0 where
    pub place : ℕ
    pub view : SeatView E O
    pub at : At views place view
    pub number : view.number ≡ Some (caller e)
    pub observed : i < length view.history

  -- there is one history with one journal, of which each seat has observed a prefix
  pub record Chain (caller : E → ℕ) (history : List E) (journal : List O)
      (views : List (SeatView E O)) : Type 0 where
    pub prefix : Each views (λ k v. IsPrefix v.history history × IsPrefix v.journal journal)
    -- any two of these prefixes are in line, the journals the same way round as the histories: so
    -- two handles that meet have one longer record
    pub in_line : (j k : ℕ) (v w : SeatView E O) → At views j v → At views k w → InLine v w
    -- each event was appended through a handle, which has observed it: so what a handle hasn't
    -- observed isn't its own. The last event's author has observed all of them, so the history is
    -- the longest that any handle has observed
    pub authors : (i : ℕ) (e : E) → At history i e → Author caller views i e
    pub meetings : Each views (λ k v. KeepsBoth caller v)
    -- who has the turn has observed all: so what it appends comes at the end
    pub whole : Each views (λ k v. v.turn ≡ true → (v.history ≡ history) × (v.journal ≡ journal))

  module _ {V : Type 0} (history : V → List E) (journal : V → List O) (caller : E → ℕ) where
    -- where the value is
    pub record Place (serving : ℕ) (past : List E) (log : List O) (homes : List (Opt (Option V)))
        (views : List (SeatView E O)) : Type 0 where
      -- a seat with the turn has the ticket that is being served: with `apart`, one at most
      pub at_turn : Each views (λ k v. v.turn ≡ true → v.ticket ≡ Some serving)
      -- the slot is at home exactly while nobody has the turn: so only that seat reads or writes it
      pub away : Each views (λ k v. v.turn ≡ true → At homes 0 none)
      -- and at home it has the value with the one record, whole: so who takes it next misses none
      pub home : Each views (λ k v. v.turn ≡ false)
          → (y : V) × At homes 0 (some (Some y)) × (history y ≡ past) × (journal y ≡ log)

    -- the whole rule; the third word is the length of the one history
    pub record KeepsRule (s : State (Option V) (SeatView E O)) : Type 0 where
      pub next : ℕ
      pub serving : ℕ
      pub waiting : ℕ
      pub past : List E
      pub log : List O
      pub words : s.words ≡ next ∷ serving ∷ length past ∷ []
      pub tickets : Tickets next serving waiting s.views
      pub numbers : Numbers s.views
      pub chain : Chain caller past log s.views
      pub place : Place serving past log s.homes s.views
