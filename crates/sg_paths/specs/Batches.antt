-- Batches that have consecutive operations of a journal. Source: this project's own.
use Rattle.std.specs.Prelude.{◌≡◌, ℕ, ◌+◌, List, [], ◌∷◌, length, take, drop}
use Rattle.std.specs.List.{flat_map}
use Rattle.sg_paths.specs.Operations.{PlainOp, PlainBatch}

-- the numbers of the batches follow one another, from n on
abbrev pub AreConsecutive : ℕ → List PlainBatch → Type 0
AreConsecutive n [] = Unit {0}
AreConsecutive n (b ∷ later) = (b.from ≡ n) × AreConsecutive (n + length b.operations) later

-- the batches have the operations of a journal behind the first `start`, up to the last-th
pub record Cover (journal : List PlainOp) (start last : ℕ) (batches : List PlainBatch)
    : Type 0 where
  pub numbered : AreConsecutive (start + 1) batches
  pub operations : flat_map (λ b. b.operations) batches ≡ drop start (take last journal)
