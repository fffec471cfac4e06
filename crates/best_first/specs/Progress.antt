-- What holds of a search between two steps. No public clause cites it. Source: this project's own.
use Rattle.std.specs.Ordering.{is_lt}
use Rattle.std.specs.Prelude.{ℕ, ◌≡◌, ◌≤◌, ◌+◌, true, false, ◌⊎◌, ⊤, List, [], ◌∷◌, length, Option}
use Rattle.std.specs.Prelude.{Some, None}
use Rattle.sg_base.specs.Cuts.{Mark, mark_cmp}
use Rattle.sg_base.specs.Lists.{In, Pairs}
use Rattle.path_desk.specs.Entries.{Queued, entry_cmp, mark_of}
use Rattle.best_first.specs.Lists.{passing, Beside}
use Rattle.best_first.specs.Matches.{Match, covers, Best, Ends}

-- a path that was taken up: what is spelled of it so far, and the mark of the entry as which it was
-- taken
pub record Taken : Type 0 where
  pub now : Queued
  pub was : Mark

-- the first of the dropped ones, where there are any
abbrev pub IsFirst : List Queued → Option Queued → Type 0
IsFirst dropped None = dropped ≡ []
IsFirst dropped (Some f) = In f dropped
    × ((d : Queued) → In d dropped → is_lt (entry_cmp d f) ≡ false)

-- the followed path was taken last
abbrev pub IsCurrent : Option Queued → List Taken → Type 0
IsCurrent None taken = ⊤
IsCurrent (Some p) [] = ⊥
IsCurrent (Some p) (t ∷ older) = t.now ≡ p

-- those that were followed to the end
abbrev pub ended_of : Option Queued → List Taken → List Taken
ended_of None taken = taken
ended_of (Some p) [] = []
ended_of (Some p) (t ∷ older) = older

-- what isn't taken up: still to be put in, queued, or dropped
abbrev pub Left : List Queued → List Queued → List Queued → Queued → Type 0
Left pending waiting dropped e = In e pending ⊎ (In e waiting ⊎ In e dropped)

-- the paths taken up, the last first, and what is left lie over each matching path once, in order
pub record Progress (all : List Match) (P : Queued → Type 0) (reached : List Match) (room : ℕ)
    (pending waiting : List Queued) (count : ℕ) (first current : Option Queued) : Type 0 where
  -- the paths taken up, the last first, and the dropped entries
  pub taken : List Taken
  pub dropped : List Queued
  pub counted : length taken ≡ count
  -- one of them, or of what is left, lies over each matching path
  pub cover : (m : Match) → In m all
      → passing (λ t. covers m t.now) taken + (passing (covers m) pending
      + (passing (covers m) waiting + passing (covers m) dropped)) ≡ 1
  pub taken_sound : (t : Taken) → In t taken → Best all t.now × P t.now
  pub left_sound : (e : Queued) → Left pending waiting dropped e → Best all e × P e
  -- the queue rises, the dropped ones stand behind it, and nothing is dropped while there is room
  pub rising : Pairs (λ a b. is_lt (entry_cmp a b) ≡ true) waiting
  pub before : (q d : Queued) → In q waiting → In d dropped → is_lt (entry_cmp q d) ≡ true
  pub is_first : IsFirst dropped first
  pub fits : length waiting + count ≤ room
  pub full : (dropped ≡ []) ⊎ (length waiting + count ≡ room)
  -- within a start, paths were taken up in order, and what is left stands behind them
  pub start_order : Pairs (λ b a. a.now.entry.start ≡ b.now.entry.start
      → is_lt (entry_cmp a.now b.now) ≡ true) taken
  pub start_left : (t : Taken) (e : Queued) → In t taken → Left pending waiting dropped e
      → t.now.entry.start ≡ e.entry.start → is_lt (entry_cmp t.now e) ≡ true
  -- marks: what is left stands at or behind each taken one, as which it was taken; within a start
  -- what is spelled of one stands before the next, and going on moves no mark forwards
  pub best_first : (t : Taken) (e : Queued) → In t taken → Left pending waiting dropped e
      → is_lt (mark_cmp (mark_of e) t.was) ≡ false
  pub key_order : Pairs (λ b a. a.now.entry.start ≡ b.now.entry.start
      → is_lt (mark_cmp b.was (mark_of a.now)) ≡ false) taken
  pub was_order : Pairs (λ b a. is_lt (mark_cmp b.was a.was) ≡ false) taken
  pub grown : (t : Taken) → In t taken
      → (is_lt (mark_cmp (mark_of t.now) t.was) ≡ false) × (t.now.entry.score ≡ t.was.score)
  -- the followed path, and the matching paths that those before it reached
  pub is_current : IsCurrent current taken
  pub ended : Beside (λ t m. Ends all t.now m) (ended_of current taken) reached
