-- The state of the walk over all nodes. No public clause cites it. Source: this project's own.
use Rattle.std.specs.Prelude.{◌≡◌, ◌⊎◌, ℕ, List, [], ◌∷◌, ◌++◌, get_or, drop, Option, Some, None}
use Rattle.sg_base.specs.declared.node.Edge.{Edge}
use Rattle.fst_code.specs.Rules.{for_targets, postorder, from_to}

-- the target of the first arc
abbrev pub first_target : List Edge → Option ℕ
first_target [] = None
first_target (e ∷ es) = Some e.target.0

-- what the arcs of a node from a place on still leave, and then the node
abbrev pub completed : List (List Edge) → ℕ → ℕ → List ℕ → List ℕ
completed nodes id at done = for_targets (postorder id nodes) (drop at (get_or nodes id [])) done
    ++ id ∷ []

-- the same for all open nodes, the root first
abbrev pub finished : List (List Edge) → List (ℕ × ℕ) → List ℕ → List ℕ
finished nodes [] done = done
finished nodes (f ∷ fs) done = completed nodes f.0 f.1 (finished nodes fs done)

-- the numbers below one stand at the front, and then another number or none
pub record IsPlaced (next : ℕ) (order : List ℕ) : Type 0 where
  pub more : List ℕ
  pub front : order ≡ from_to next 0 ++ more
  pub other : (more ≡ []) ⊎ (get_or more 0 next ≡ next → ⊥)
