-- How entries go on by the arcs of a segment's nodes. No public clause cites it. Source: the best
-- first search of Lucene's TopNSearcher; over min-plus, where an arc of cost 0 keeps the score.
use Rattle.std.specs.Prelude.{ℕ, ◌≡◌, ◌<◌, ◌≤◌, ◌+◌, ◌-◌, ◌*◌, ◌^◌, List, [], ◌∷◌, ◌++◌, map}
use Rattle.std.specs.Prelude.{length, get_or}
use Rattle.sg_base.specs.Lists.{In}
use Rattle.sg_base.specs.declared.node.Edge.{Edge}
use Rattle.path_desk.specs.Desks.{PlainDesk, put_entry}
use Rattle.path_desk.specs.Entries.{Queued, queued}
use Rattle.path_desk.specs.declared.entry.Entry.{Entry}
use Rattle.best_first.specs.Families.{IsFamily}
use Rattle.best_first.specs.Matches.{Match, Ends}
pub use Rattle.best_first.specs.Parts.{most_bytes, most_path_bytes}

-- the entry behind an arc of an entry's node
abbrev pub child_entry : Entry → Edge → Entry
child_entry e a = record {
  score = e.score - a.cost * e.boost;
  start = e.start;
  boost = e.boost;
  node = a.target;
  cost = e.cost + a.cost;
  ordinal = e.ordinal + a.before;
}

-- the same with its bytes
abbrev pub child : Queued → Edge → Queued
child p a = queued (child_entry p.entry a) (p.bytes ++ a.label ∷ [])

-- entries are put in one after another
abbrev pub put_all : PlainDesk → List Queued → PlainDesk
put_all d [] = d
put_all d (x ∷ xs) = put_all (put_entry d x) xs

-- the arcs of a node
abbrev pub arcs_of : List (List Edge) → ℕ → List Edge
arcs_of nodes id = get_or nodes id []

-- an arc behind which numbers stay in their ranges
pub record IsWithin (e : Entry) (a : Edge) : Type 0 where
  pub cost : e.cost + a.cost < 2 ^ 32
  pub score : a.cost * e.boost ≤ e.score
  pub ordinal : e.ordinal + a.before < 2 ^ 32

-- the arc that is followed: the first that costs nothing
pub record IsFree (edges us vs : List Edge) (a : Edge) : Type 0 where
  pub is : edges ≡ us ++ a ∷ vs
  pub free : a.cost ≡ 0
  pub first : (u : Edge) → In u us → u.cost ≡ 0 → ⊥

-- there is one
abbrev pub HasFreeArc : List Edge → Type 0
HasFreeArc edges = (us : List Edge) × (vs : List Edge) × (a : Edge) × IsFree edges us vs a

-- The entries of which P holds go on by the arcs of the nodes, one of which costs nothing, and end
-- at node 0: there each is the matching path with its ordinal.
pub record Knows (all : List Match) (P : Queued → Type 0) (nodes : List (List Edge))
    (match_at : ℕ → Match) : Type 0 where
  pub is_node : (p : Queued) → P p → p.entry.node.0 < length nodes
  pub within : (p : Queued) → P p → (a : Edge) → In a (arcs_of nodes p.entry.node.0)
      → IsWithin p.entry a
  pub short : (p : Queued) → P p → (p.entry.node.0 ≡ 0 → ⊥)
      → length p.bytes < most_path_bytes nodes
  pub free : (p : Queued) → P p → (p.entry.node.0 ≡ 0 → ⊥)
      → HasFreeArc (arcs_of nodes p.entry.node.0)
  pub family : (p : Queued) (us vs : List Edge) (a : Edge) → P p → (p.entry.node.0 ≡ 0 → ⊥)
      → IsFree (arcs_of nodes p.entry.node.0) us vs a
      → IsFamily all P p (child p a) (map (child p) us ++ map (child p) vs)
  pub end : (p : Queued) → P p → p.entry.node.0 ≡ 0 → Ends all p (match_at p.entry.ordinal)
