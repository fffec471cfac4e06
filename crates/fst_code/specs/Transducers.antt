-- What those who walk over a transducer know of its nodes. Source: this project's own.
use Rattle.std.specs.Prelude.{ℕ, ◌≡◌, ◌<◌, ◌≤◌, ◌+◌, List, [], ◌∷◌, get_or, length}
use Rattle.std.specs.List.{AllByRecursion}
use Rattle.sg_base.specs.declared.node.Edge.{Edge}
use Rattle.fst_code.specs.Tails.{Tail, tails, spread}
use Rattle.fst_code.specs.Lists.{HasFree, root_paths}

-- labels rise strictly
abbrev pub Rises : List Edge → Type 0
Rises [] = Unit {0}
Rises (e ∷ es) = AllByRecursion (λ (d : Edge). e.label < d.label) es × Rises es

-- each arc counts the ways under those before it
abbrev pub Counts : (ℕ → List Tail) → ℕ → List Edge → Type 0
Counts ways sofar [] = Unit {0}
Counts ways sofar (e ∷ es) =
    (e.before ≡ sofar) × Counts ways (sofar + length (ways e.target.0)) es

-- the arcs of a node, where the ways from each node are given
pub record IsNode (ways : ℕ → List Tail) (id : ℕ) (edges : List Edge) : Type 0 where
  pub rises : Rises edges
  pub below : AllByRecursion (λ (e : Edge). e.target.0 < id) edges
  pub counts : Counts ways 0 edges
  pub few : length edges ≤ 256

-- The nodes of a transducer: node 0 is the end, and the last one is the root. Each node but the
-- root has a way of cost 0.
pub record IsTransducer (nodes : List (List Edge)) : Type 0 where
  pub node : (id : ℕ) → id < length nodes → IsNode (tails nodes) id (get_or nodes id [])
  pub inner : (id : ℕ) → 0 < id → id < length nodes
      → tails nodes id ≡ spread (tails nodes) (get_or nodes id [])
  pub some : (id : ℕ) → id < length nodes → 0 < length (tails nodes id)
  pub free : (id : ℕ) → id + 1 < length nodes → HasFree (tails nodes id)
  pub the_end : 0 < length nodes → (get_or nodes 0 [] ≡ []) × (tails nodes 0 ≡ ([], 0) ∷ [])
  pub fit : length nodes < 4294967296
  pub paths : length (root_paths nodes) ≤ 4194304
  pub cheap : AllByRecursion (λ (t : Tail). t.1 ≤ 2147483647) (root_paths nodes)
  pub short : AllByRecursion (λ (t : Tail). length t.0 ≤ 324) (root_paths nodes)
