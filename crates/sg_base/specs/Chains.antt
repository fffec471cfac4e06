-- Nodes in chains by their hashes. No public clause cites it. Source: this project's own.
use Rattle.std.specs.Prelude.{◌≡◌, ℕ, ◌-◌, ◌<◌, ◌≤◌, List, [], get_or, length}
use Rattle.sg_base.specs.declared.node.Edge.{Edge}
use Rattle.sg_base.specs.Hashes.{bucket}

-- The first n nodes in chains. A cell is a node's number plus 1, and 0 ends a chain. Between a
-- cell and the next one of its chain no node has the same bucket, and none after a chain's head.
pub record Chained (heads : List ℕ) (cell : ℕ → ℕ) (bucket_at : ℕ → ℕ) (n : ℕ) : Type 0 where
  pub bound : (b : ℕ) → get_or heads b 0 ≤ n
  pub head : (b j : ℕ) → b < length heads → get_or heads b 0 ≤ j → j < n → bucket_at j ≡ b → ⊥
  pub head_in : (b : ℕ) → b < length heads → 0 < get_or heads b 0
      → bucket_at (get_or heads b 0 - 1) ≡ b
  pub falls : (i : ℕ) → i < n → cell i ≤ i
  pub gap : (i j : ℕ) → i < n → cell i ≤ j → j < i → bucket_at j ≡ bucket_at i → ⊥
  pub cell_in : (i : ℕ) → i < n → 0 < cell i → bucket_at (cell i - 1) ≡ bucket_at i

-- the bucket of the i-th node
abbrev pub bucket_in : ℕ → List (List Edge) → ℕ → ℕ
bucket_in buckets nodes i = bucket buckets (get_or nodes i [])
