-- The arcs of a node by which contexts go on. No public clause cites this module.
use Rattle.std.specs.Prelude.{ℕ, ◌≡◌, ◌≤◌, ◌<◌, true, false, List, [], ◌∷◌, ◌++◌}
use Rattle.sg_base.specs.declared.reserved.TheConstants.{CONTEXT_END}
use Rattle.sg_base.specs.declared.node.Edge.{Edge}
use Rattle.fst_code.specs.Tails.{Tail}
use Rattle.fst_code.specs.Lists.{root_paths}
use Rattle.fst_walk.specs.Fronts.{is_front}
use Rattle.fst_walk.specs.Spots.{IsSpot}
use Rattle.fst_walk.specs.declared.children.Child.{Child}

-- no path goes on from the bytes by a label from f on, but for the end of a context
abbrev pub NoneFrom : List Tail → List ℕ → ℕ → Type 0
NoneFrom ts at f =
    (x : ℕ) → f ≤ x → (x ≡ CONTEXT_END → ⊥) → is_front ts (at ++ x ∷ []) ≡ false

-- nor by one from f up to l
abbrev pub NoneBetween : List Tail → List ℕ → ℕ → ℕ → Type 0
NoneBetween ts at f l =
    (x : ℕ) → f ≤ x → x < l → (x ≡ CONTEXT_END → ⊥) → is_front ts (at ++ x ∷ []) ≡ false

-- the child with the least such label
pub record IsChild (t : List (List Edge)) (at : List ℕ) (f : ℕ) (c : Child) : Type 0 where
  pub least : f ≤ c.label
  pub goes_on : c.label ≡ CONTEXT_END → ⊥
  pub between : NoneBetween (root_paths t) at f c.label
  pub front : is_front (root_paths t) (at ++ c.label ∷ []) ≡ true
  pub spot : IsSpot t (at ++ c.label ∷ []) c.spot
