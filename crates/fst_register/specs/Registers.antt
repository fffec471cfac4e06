-- Nodes that are held once each. Source: this project's own.
use Rattle.std.specs.Prelude.{◌≡◌, ℕ, ◌<◌, ◌≤◌, true, false, List, [], get_or, length}
use Rattle.sg_base.specs.declared.node.Edge.{Edge}
use Rattle.sg_base.specs.Chains.{Chained, bucket_in}
use Rattle.sg_base.specs.Nodes.{same_edges}

-- the number of the only node that is equal to the arcs
pub record IsOnlyEqual (nodes : List (List Edge)) (edges : List Edge) (id : ℕ) : Type 0 where
  pub there : id < length nodes
  pub same : same_edges (get_or nodes id []) edges ≡ true
  pub only : (i : ℕ) → i < length nodes → same_edges (get_or nodes i []) edges ≡ true → i ≡ id

-- no two nodes are equal
abbrev pub AreDistinct : List (List Edge) → Type 0
AreDistinct nodes = (i j : ℕ) → i < j → j < length nodes
    → same_edges (get_or nodes i []) (get_or nodes j []) ≡ false

-- What holds of a register's vectors and its nodes; no public clause cites it. A chain's cell is a
-- node's number plus 1, and 0 ends a chain.
pub record IsRegister (heads chain : List ℕ) (nodes : List (List Edge)) : Type 0 where
  pub once : AreDistinct nodes
  pub cells : length chain ≡ length nodes
  pub few : length nodes < 4294967296
  pub buckets : length heads < 4294967296
  pub room : length nodes ≤ length heads
  pub chained : Chained heads (λ i. get_or chain i 0) (bucket_in (length heads) nodes)
      (length nodes)
