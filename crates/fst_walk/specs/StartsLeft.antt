-- The start nodes of a query as their iterator has them. Source: this project's own.
use Rattle.std.specs.Prelude.{ℕ, ◌≡◌, ◌+◌, Some, List, ◌∷◌, ◌++◌, length}
use Rattle.sg_base.specs.declared.node.Edge.{Edge}
use Rattle.sg_base.specs.declared.reserved.TheConstants.{CONTEXT_END}
use Rattle.sg_context.specs.Boosts.{boost_of}
use Rattle.sg_context.specs.Queries.{PlainQuery}
use Rattle.fst_walk.specs.Spots.{IsSpot}
use Rattle.fst_walk.specs.declared.starts.Start.{Start}

-- the nodes of the transducer, the query, the contexts of the starts to come, how many were given,
-- and how many steps those to come may take
pub record StartsLeft : Type 0 where
  pub nodes : List (List Edge)
  pub query : PlainQuery
  pub contexts : List (List ℕ)
  pub given : ℕ
  pub budget : ℕ

-- a start that was given: the first of the contexts to come, with its boost, number and cursor
pub record IsStart (old new : StartsLeft) (s : Start) : Type 0 where
  pub context : List ℕ
  pub left : old.contexts ≡ context ∷ new.contexts
  pub length_is : s.context ≡ length context
  pub boost : boost_of old.query.contexts context ≡ Some s.boost
  pub number : s.number ≡ old.given
  pub given : new.given ≡ old.given + 1
  pub spot : IsSpot old.nodes (context ++ CONTEXT_END ∷ old.query.prefix) s.spot
