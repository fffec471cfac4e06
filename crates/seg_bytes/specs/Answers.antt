-- What the answers of the calls that read say. Source: this project's own.
use Rattle.std.specs.Prelude.{◌≡◌, ℕ, Bool, true, false, ⊤, Result, Ok, Err}
use Rattle.seg_bytes.specs.declared.error.ReadError.{ReadError}
use Rattle.seg_bytes.specs.declared.error.ReadError.TheVariants.{Bad, Memory}
use Rattle.seg_bytes.specs.declared.field.Field.{Field}
use Rattle.seg_bytes.specs.Fields.{Reading, reads, broken}

-- a refusal names where the first field that breaks begins; want of memory is free
abbrev pub Refuses : {A : Type 0} → Reading A → ReadError → Type 0
Refuses given (Bad at) = given ≡ broken at
Refuses given Memory = ⊤

-- the answer is what is read, seen by a view
abbrev pub Reads : {A X : Type 0} → (X → A) → Reading A → Result (Field X) ReadError → Type 0
Reads view given (Ok field) = given ≡ reads (view field.value) field.end
Reads view given (Err error) = Refuses given error

-- the answer is x where it passes a test, and else a refusal of the field that begins at start
abbrev pub Takes : {A : Type 0} → (A → Bool) → A → ℕ → Result A ReadError → Type 0
Takes test x start (Ok taken) = (test x ≡ true) × (taken ≡ x)
Takes test x start (Err (Bad at)) = (test x ≡ false) × (at ≡ start)
Takes test x start (Err Memory) = ⊤
