-- The list of paths that bytes map. Source: this project's own.
use Rattle.std.specs.Prelude.{◌≡◌, ℕ, ◌+◌, ◌-◌, ◌<◌, ◌⊎◌, false, List, [], ◌∷◌, length, get_or}
use Rattle.sg_base.specs.declared.node.Edge.{Edge}
use Rattle.sg_base.specs.Nodes.{same_edges}
use Rattle.fst_code.specs.Tails.{Tail, tails}
use Rattle.fst_code.specs.Bytes.{nodes_of}
use Rattle.fst_code.specs.Rules.{IsValid}
use Rattle.fst_code.specs.Shapes.{IsBytes}

-- the paths of the last node
abbrev pub root_paths : List (List Edge) → List Tail
root_paths nodes = tails nodes (length nodes - 1)

-- what bytes map: the paths of their root, in byte order, with their costs
abbrev pub list_of : List ℕ → List Tail
list_of bytes = root_paths (nodes_of bytes)

-- some path costs 0
abbrev pub HasFree : List Tail → Type 0
HasFree [] = ⊥
HasFree (t ∷ ts) = (t.1 ≡ 0) ⊎ HasFree ts

-- from each node but the root some way to the end costs 0, and no two nodes are equal
pub record IsCanonical (nodes : List (List Edge)) : Type 0 where
  pub free : (id : ℕ) → id + 1 < length nodes → HasFree (tails nodes id)
  pub once : (i j : ℕ) → i < j → j < length nodes
      → same_edges (get_or nodes i []) (get_or nodes j []) ≡ false

-- the only valid bytes that map a list
abbrev pub IsOnlyText : List Tail → List ℕ → Type 0
IsOnlyText list bytes = (b : List ℕ) → IsBytes b → IsValid b → list_of b ≡ list → b ≡ bytes
