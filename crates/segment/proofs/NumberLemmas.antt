-- The documents that operations add have rising numbers.
use Rattle.std.proofs.Common.{◌<◌, ◌+◌, ℕ, List, [], ◌∷◌, arith}
use Rattle.sg_paths.specs.Operations.{PlainOp, adds, updates, deletes, documents_from}
use Rattle.segment.specs.Represents.{RiseFrom, NumbersRise}

rise_from : (m n : ℕ) (operations : List PlainOp) → m < n
    → RiseFrom m (documents_from n operations)
rise_from m n [] h = tt
rise_from m n (adds d ∷ later) h = (h, rise_from n (n + 1) later (omega arith))
rise_from m n (updates d ∷ later) h = (h, rise_from n (n + 1) later (omega arith))
rise_from m n (deletes id ∷ later) h = rise_from m (n + 1) later (omega arith)

pub numbers_rise : (n : ℕ) (operations : List PlainOp) → NumbersRise (documents_from n operations)
numbers_rise n [] = tt
numbers_rise n (adds d ∷ later) = rise_from n (n + 1) later (omega arith)
numbers_rise n (updates d ∷ later) = rise_from n (n + 1) later (omega arith)
numbers_rise n (deletes id ∷ later) = numbers_rise (n + 1) later
