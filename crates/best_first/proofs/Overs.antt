-- What it means that an entry is over a node: the matching paths under it go on by the node's ways.
use Rattle.std.proofs.Common.{◌≡◌, ◌≤◌, ◌<◌, ◌+◌, ◌-◌, ◌*◌, ℕ, true, List, [], ◌++◌}
use Rattle.sg_base.specs.Lists.{In, Pairs}
use Rattle.sg_base.specs.declared.limits.TheConstants.{MOST_WEIGHT}
use Rattle.sg_base.specs.declared.node.Edge.{Edge}
use Rattle.fst_code.specs.Tails.{Tail, along}
use Rattle.path_desk.specs.Entries.{Queued}
use Rattle.best_first.specs.Matches.{Match, covers}

-- the way from the end
abbrev pub no_way : Tail
no_way = ([], 0)

-- the score of a path under an entry, where it costs so much in all
abbrev pub score_at : Queued → ℕ → ℕ
score_at p cost = (MOST_WEIGHT - cost) * p.entry.boost

-- the ways of a node are those of its arcs, with rising labels, and behind each arc one is free
pub record IsSpread (ways : ℕ → List Tail) (edges : List Edge) (node : ℕ) : Type 0 where
  pub down : (a : Edge) (v : Tail) → In a edges → In v (ways a.target.0)
      → In (along a v) (ways node)
  pub up : (w : Tail) → In w (ways node)
      → (a : Edge) × (v : Tail) × In a edges × In v (ways a.target.0) × (w ≡ along a v)
  pub labels : Pairs (λ (a b : Edge). a.label < b.label) edges
  pub frees : (a : Edge) → In a edges → (v : Tail) × In v (ways a.target.0) × (v.1 ≡ 0)

-- the matching paths under an entry are its bytes with its node's ways
pub record IsOver (all : List Match) (ways : ℕ → List Tail) (p : Queued) : Type 0 where
  pub score_is : p.entry.score ≡ score_at p p.entry.cost
  pub least : 1 ≤ p.entry.boost
  pub fits : (v : Tail) → In v (ways p.entry.node.0) → p.entry.cost + v.1 ≤ MOST_WEIGHT
  pub to : (v : Tail) → In v (ways p.entry.node.0)
      → (m : Match) × In m all × (m.start ≡ p.entry.start) × (m.bytes ≡ p.bytes ++ v.0)
      × (m.rank.score ≡ score_at p (p.entry.cost + v.1))
  pub from : (m : Match) → In m all → covers m p ≡ true
      → (v : Tail) × In v (ways p.entry.node.0) × (m.bytes ≡ p.bytes ++ v.0)
      × (m.rank.score ≡ score_at p (p.entry.cost + v.1))
  pub free : (v : Tail) × In v (ways p.entry.node.0) × (v.1 ≡ 0)
