-- What the answers of the check say. Source: this project's own.
use Rattle.std.specs.Prelude.{◌≡◌, ℕ, List, Some, None}
use Rattle.sg_paths.specs.Operations.{PlainNumbered}
use Rattle.fst_code.specs.declared.error.CodeError.{CodeError}
use Rattle.fst_code.specs.declared.error.CodeError.TheVariants.{Bad, Memory}
use Rattle.segment.specs.Rules.{Finds, documents_in}

-- bytes that break no rule, with their documents
abbrev pub Accepts : List ℕ → List PlainNumbered → Type 0
Accepts bytes docs = Finds bytes None × (docs ≡ documents_in bytes)

-- the first rule that is broken, and its offset; of want of memory nothing
abbrev pub Refuses : List ℕ → CodeError → Type 0
Refuses bytes (Bad rule at) = Finds bytes (Some (rule, at))
Refuses bytes Memory = Unit {0}
