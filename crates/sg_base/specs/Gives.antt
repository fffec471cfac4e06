-- Answers of calls that may run out of memory. Source: this project's own.
use Rattle.std.specs.Prelude.{◌≡◌, Bool, false, Result, Ok, Err}

-- what came back is what the definition gives, a value or a refusal, unless memory ran out
abbrev pub Gives : {T E : Type 0} → (E → Bool) → Result T E → Result T E → Type 0
Gives is_memory (Ok value) given = given ≡ Ok value
Gives is_memory (Err error) given = is_memory error ≡ false → given ≡ Err error
