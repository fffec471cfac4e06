-- How the reading of an input ends. Source: this project's own.
use Rattle.std.specs.Prelude.{◌≡◌, ◌≤◌, ◌<◌, ◌+◌, ℕ, List, length, Bool, true}
use Rattle.std.specs.Prelude.{Option, Result, Ok, Err, Vec}
use Rattle.std.specs.declared.alloc.Global.{Global}
use Rattle.sg_edge.specs.Edge.{in_front, NothingLeft, Rose}
use Rattle.sg_shell.specs.declared.reading.TheConstants.{MOST_INPUT_BYTES, PIECE_BYTES}
use Rattle.sg_shell.specs.declared.reading.ReadError.{ReadError}
use Rattle.sg_shell.specs.declared.reading.ReadError.TheVariants.{Fault, TooLong, Memory}

-- these bytes are the whole input
pub record ReadsToTheEnd {S : Type 0} (left : S → Option (List ℕ)) (faults : S → ℕ)
    (ended : S → Bool) (old new : S) (bytes : List ℕ) : Type 0 where
  pub moved : left old ≡ in_front bytes (left new)
  pub bound : length bytes ≤ MOST_INPUT_BYTES
  pub nothing_left : NothingLeft (left new)
  pub at_end : ended new ≡ true
  pub no_fault : faults new ≡ faults old

-- a take failed, and these bytes were taken before
pub record StopsAtFault {S : Type 0} (left : S → Option (List ℕ)) (faults : S → ℕ)
    (old new : S) : Type 0 where
  pub taken : List ℕ
  pub moved : left old ≡ in_front taken (left new)
  pub bound : length taken ≤ MOST_INPUT_BYTES
  pub rose : Rose (faults old) (faults new)

-- these bytes were taken, more than an input has, by at most one piece
pub record StopsTooLong {S : Type 0} (left : S → Option (List ℕ)) (faults : S → ℕ)
    (old new : S) : Type 0 where
  pub taken : List ℕ
  pub moved : left old ≡ in_front taken (left new)
  pub over : MOST_INPUT_BYTES < length taken
  pub bound : length taken ≤ MOST_INPUT_BYTES + PIECE_BYTES
  pub no_fault : faults new ≡ faults old

-- memory ran out, and these bytes were taken before
pub record StopsWithoutMemory {S : Type 0} (left : S → Option (List ℕ)) (faults : S → ℕ)
    (old new : S) : Type 0 where
  pub taken : List ℕ
  pub moved : left old ≡ in_front taken (left new)
  pub bound : length taken ≤ MOST_INPUT_BYTES
  pub no_fault : faults new ≡ faults old

-- what each answer of the reading says of the source
abbrev pub ReadEnds : {S : Type 0} → (S → Option (List ℕ)) → (S → ℕ) → (S → Bool) → S → S
    → Result (Vec ℕ Global) ReadError → Type 0
ReadEnds left faults ended old new (Ok v) = ReadsToTheEnd left faults ended old new v.items
ReadEnds left faults ended old new (Err Fault) = StopsAtFault left faults old new
ReadEnds left faults ended old new (Err TooLong) = StopsTooLong left faults old new
ReadEnds left faults ended old new (Err Memory) = StopsWithoutMemory left faults old new
