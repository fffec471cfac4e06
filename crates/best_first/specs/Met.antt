-- What it means that an entry stands over a node of a segment's transducer. No public clause cites
-- it. Source: this project's own.
use Rattle.std.specs.Prelude.{ℕ, zero, suc, ◌≡◌, ◌<◌, ◌+◌, ◌-◌, ◌*◌, true, Some, List, [], ◌∷◌}
use Rattle.std.specs.Prelude.{◌++◌, length}
use Rattle.sg_base.specs.ByteStrings.{begins}
use Rattle.sg_base.specs.declared.limits.TheConstants.{MOST_WEIGHT}
use Rattle.sg_base.specs.declared.node.Edge.{Edge}
use Rattle.sg_base.specs.declared.reserved.TheConstants.{CONTEXT_END}
use Rattle.sg_context.specs.Boosts.{boost_of}
use Rattle.fst_code.specs.Lists.{root_paths}
use Rattle.fst_code.specs.Tails.{tails}
use Rattle.fst_walk.specs.Spots.{IsPlace}
use Rattle.path_desk.specs.Entries.{Queued}
use Rattle.best_first.specs.PathMatches.{Setting}

-- the context with a number
abbrev pub IsAt : List (List ℕ) → ℕ → List ℕ → Type 0
IsAt [] n c = ⊥
IsAt (x ∷ xs) zero c = x ≡ c
IsAt (x ∷ xs) (suc n) c = IsAt xs n c

-- an entry stands over a cursor: its context's bytes, then its own, lead to its node
pub record IsMet (s : Setting) (nodes : List (List Edge)) (p : Queued) : Type 0 where
  pub context : List ℕ
  pub at : IsAt s.starts p.entry.start context
  pub boost : boost_of s.query.contexts context ≡ Some p.entry.boost
  pub is_node : p.entry.node.0 + 1 < length nodes
  pub meets : IsPlace (root_paths nodes) (tails nodes) (context ++ CONTEXT_END ∷ p.bytes)
      p.entry.node.0 p.entry.cost p.entry.ordinal
  pub score : p.entry.score ≡ (MOST_WEIGHT - p.entry.cost) * p.entry.boost
  pub under : begins s.query.prefix p.bytes ≡ true
