-- The entries of the starts of a query, and how they are put in. No public clause cites it. Source:
-- this project's own.
use Rattle.std.specs.Prelude.{ℕ, ◌≡◌, ◌<◌, ◌+◌, ◌-◌, ◌*◌, ⊤, Some, List, [], ◌∷◌, ◌++◌, length}
use Rattle.sg_base.specs.declared.limits.TheConstants.{MOST_WEIGHT}
use Rattle.sg_base.specs.declared.node.Edge.{Edge}
use Rattle.sg_base.specs.declared.reserved.TheConstants.{CONTEXT_END}
use Rattle.sg_context.specs.Boosts.{boost_of}
use Rattle.sg_context.specs.Queries.{PlainQuery}
use Rattle.fst_code.specs.Lists.{root_paths}
use Rattle.fst_code.specs.Tails.{tails}
use Rattle.fst_walk.specs.Spots.{IsPlace}
use Rattle.fst_walk.specs.StartsLeft.{StartsLeft}
use Rattle.fst_walk.specs.declared.starts.Start.{Start}
use Rattle.path_desk.specs.declared.entry.Entry.{Entry}

-- the entry of a start: the cursor under its context and the query's key
pub record IsRoot (query : PlainQuery) (nodes : List (List Edge)) (number : ℕ)
    (context : List ℕ) (e : Entry) : Type 0 where
  pub start : e.start ≡ number
  pub boost : boost_of query.contexts context ≡ Some e.boost
  pub is_node : e.node.0 < length nodes
  pub meets : IsPlace (root_paths nodes) (tails nodes) (context ++ CONTEXT_END ∷ query.prefix)
      e.node.0 e.cost e.ordinal
  pub score : e.score ≡ (MOST_WEIGHT - e.cost) * e.boost

-- the entries of the starts under contexts, of which the first has this number
abbrev pub AreRoots : PlainQuery → List (List Edge) → ℕ → List (List ℕ) → List Entry → Type 0
AreRoots query nodes number [] [] = ⊤
AreRoots query nodes number [] (e ∷ es) = ⊥
AreRoots query nodes number (c ∷ cs) [] = ⊥
AreRoots query nodes number (c ∷ cs) (e ∷ es) =
    IsRoot query nodes number c e × AreRoots query nodes (number + 1) cs es

-- the entry of a start that was given
abbrev pub entry_of_start : Start → Entry
entry_of_start st = record {
  score = (MOST_WEIGHT - st.spot.cost) * st.boost;
  start = st.number;
  boost = st.boost;
  node = st.spot.node;
  cost = st.spot.cost;
  ordinal = st.spot.ordinal;
}

-- while the starts of a query are put in: those that were given have these entries
pub record Loading (query : PlainQuery) (nodes : List (List Edge)) (contexts : List (List ℕ))
    (left : StartsLeft) (roots : List Entry) : Type 0 where
  pub done : List (List ℕ)
  pub is : contexts ≡ done ++ left.contexts
  pub roots_are : AreRoots query nodes 0 done roots
  pub given : left.given ≡ length done
  pub of_query : left.query ≡ query
  pub of_nodes : left.nodes ≡ nodes
