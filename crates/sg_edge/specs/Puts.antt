-- What an answer of a put says of the count of faults. Source: this project's own.
use Rattle.std.specs.Prelude.{◌≡◌, ℕ, Result, Ok, Err}
use Rattle.sg_edge.specs.Edge.{Rose}
use Rattle.sg_edge.specs.declared.sink.PutError.{PutError}
use Rattle.sg_edge.specs.declared.sink.PutError.TheVariants.{Failed, Memory}

-- a put fails only where it met a fault, which is counted once, and an Ok and want of memory leave
-- the count
abbrev pub PutCause : {T : Type 0} → ℕ → ℕ → Result T PutError → Type 0
PutCause before now (Ok value) = now ≡ before
PutCause before now (Err Failed) = Rose before now
PutCause before now (Err Memory) = now ≡ before
