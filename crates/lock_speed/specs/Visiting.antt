-- Visits to a list under the lock. Source: this project's own.
use Rattle.std.specs.Prelude.{◌≡◌, ◌+◌, ℕ, false, List, length}
use Rattle.turn_lock.specs.Handles.{LockId, Handle, IsPrefix, own}

-- a handle of this lock, outside its critical section
pub record IsOutside (lock : LockId) (h : Handle ℕ ℕ) : Type 0 where
  pub at : h.lock ≡ lock
  pub outside : h.inside ≡ false

-- how many of the visits that a handle has observed are its own
abbrev pub own_visits : Handle ℕ ℕ → ℕ
own_visits h = length (own (λ caller. caller) h.number h.history)

-- a handle came by so often: what it had observed is in front, and its own visits are so many more
pub record CameBy (times : ℕ) (before after : Handle ℕ ℕ) : Type 0 where
  pub lock : after.lock ≡ before.lock
  pub number : after.number ≡ before.number
  pub outside : after.inside ≡ false
  pub in_front : IsPrefix before.history after.history
  pub visits : own_visits after ≡ own_visits before + times
