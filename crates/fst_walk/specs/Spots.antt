-- Transducer cursors: nodes as they are met under given bytes. Source: the arcs of Lucene's FST as
-- they are followed; the place in the list of paths is this project's own.
use Rattle.std.specs.Prelude.{ℕ, ◌≡◌, ◌<◌, false, List, ◌++◌, length}
use Rattle.std.specs.List.{AllByRecursion}
use Rattle.sg_base.specs.declared.node.Edge.{Edge}
use Rattle.sg_base.specs.ByteStrings.{begins}
use Rattle.fst_code.specs.Tails.{Tail, tails}
use Rattle.fst_code.specs.Lists.{root_paths}
use Rattle.fst_walk.specs.Fronts.{behind}
use Rattle.fst_walk.specs.declared.spot.Spot.{Spot}

-- The paths that begin with the bytes are those from the ordinal on, and go on by the node's ways,
-- with the cost added; no other path begins so.
pub record IsPlace (paths : List Tail) (ways : ℕ → List Tail) (bytes : List ℕ)
    (node cost ordinal : ℕ) : Type 0 where
  pub before : List Tail
  pub after : List Tail
  pub is : paths ≡ before ++ behind bytes cost (ways node) ++ after
  pub place : length before ≡ ordinal
  pub others : AllByRecursion (λ (t : Tail). begins bytes t.0 ≡ false) (before ++ after)

-- the cursor under the bytes, among the paths of a transducer's nodes
pub record IsSpot (nodes : List (List Edge)) (bytes : List ℕ) (spot : Spot) : Type 0 where
  pub is_node : spot.node.0 < length nodes
  pub meets :
      IsPlace (root_paths nodes) (tails nodes) bytes spot.node.0 spot.cost spot.ordinal
