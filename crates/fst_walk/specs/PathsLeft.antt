-- All paths as their iterator has them. Source: this project's own.
use Rattle.std.specs.Prelude.{ℕ, List}
use Rattle.sg_base.specs.declared.node.Edge.{Edge}
use Rattle.fst_code.specs.Tails.{Tail}

-- the nodes of the transducer, the paths to come with their costs, and the path given last
pub record PathsLeft : Type 0 where
  pub nodes : List (List Edge)
  pub paths : List Tail
  pub path : List ℕ
