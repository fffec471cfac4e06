-- Handles of a shared index, each for a thread of its own. Source: this project's own.
use Rattle.std.specs.Prelude.{◌≡◌, ◌<◌, ◌+◌, ℕ, List, length, slice_index_or}
use Rattle.turn_lock.specs.Handles.{LockId, own}
use Rattle.segment.specs.Views.{PlainParts}
use Rattle.index_core.specs.Histories.{accepted}
use Rattle.index_shared.specs.Sections.{HandleState, IsAt, caller_of, seen_by}
use Rattle.index_shared.specs.OwnViews.{HasMerge, open_by}

-- each of the handles is of this index, outside any critical section
abbrev pub AreAt : LockId → List HandleState → Type 0
AreAt index handles =
    (k : ℕ) (h : HandleState) → k < length handles → IsAt index (slice_index_or handles k h)

-- how many of the operations that a handle has seen it accepted itself
abbrev pub own_accepts : HandleState → ℕ
own_accepts h = accepted (own caller_of h.number h.history)

-- the same handle, which accepted so many operations more
pub record HasAccepted (times : ℕ) (before after : HandleState) : Type 0 where
  pub number : after.number ≡ before.number
  pub accepts : own_accepts after ≡ own_accepts before + times

-- the same handle, with the same views open
pub record KeepsViews (before after : HandleState) : Type 0 where
  pub number : after.number ≡ before.number
  pub views : open_by before.number (seen_by after) ≡ open_by before.number (seen_by before)

-- the merges that a handle has open stay open
abbrev pub KeepsMerges : HandleState → HandleState → Type 0
KeepsMerges old new = (parts : PlainParts) → HasMerge old parts → HasMerge new parts
