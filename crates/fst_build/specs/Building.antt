-- What a builder holds: frozen nodes, and the nodes along the last path. No public clause cites
-- it. Source: the incremental construction of a minimal transducer from sorted paths.
use Rattle.std.specs.Prelude.{◌≡◌, ℕ, ◌+◌, ◌-◌, ◌<◌, ◌≤◌, List, [], ◌∷◌, ◌++◌, map, min}
use Rattle.std.specs.Prelude.{get_or, length, true, false, ◌⊎◌}
use Rattle.std.specs.List.{AllByRecursion}
use Rattle.sg_base.specs.declared.node.Edge.{Edge}
use Rattle.sg_base.specs.Nodes.{same_edges, holds_same}
use Rattle.fst_code.specs.Tails.{Tail, along, mapped, table, dearest, longest, counts, tails}
use Rattle.fst_code.specs.Rules.{for_targets, visit, from_to, is_free}
pub use Rattle.fst_code.specs.ValidNodes.{Rising, CountedFrom}

-- A node on the last path: its finished arcs with the whole cost of their cheapest path, how many
-- paths are under them, and the label by which the path goes on.
pub record Frame : Type 0 where
  pub label : ℕ
  pub count : ℕ
  pub edges : List Edge

-- the paths that arcs map, by those of their targets
abbrev pub ways_of : List (List Tail) → List Edge → List Tail
ways_of known [] = []
ways_of known (e ∷ es) = map (along e) (get_or known e.target.0 []) ++ ways_of known es

-- a path with a label in front
abbrev pub with_label : ℕ → Tail → Tail
with_label label t = (label ∷ t.0, t.1)

-- a path that costs so much more
abbrev pub with_cost : ℕ → Tail → Tail
with_cost cost t = (t.0, cost + t.1)

-- the list of paths under frames, the outermost first, where the last one goes on by these
abbrev pub paths_under : List (List Tail) → List Frame → List Tail → List Tail
paths_under known [] inner = inner
paths_under known (f ∷ fs) inner =
    ways_of known f.edges ++ map (with_label f.label) (paths_under known fs inner)

-- the least cost of arcs
abbrev pub least_of : List Edge → ℕ
least_of [] = 0
least_of (e ∷ []) = e.cost
least_of (e ∷ d ∷ es) = min e.cost (least_of (d ∷ es))

-- an arc that costs so much less
abbrev pub lowered_arc : ℕ → Edge → Edge
lowered_arc base e =
    record { label = e.label; cost = e.cost - base; before = e.before; target = e.target }

-- the mapped list of each node
abbrev pub known : List (List Edge) → List (List Tail)
known = table mapped []

-- how many paths are under a node
abbrev pub count_at : List (List Edge) → ℕ → ℕ
count_at ns id = get_or (counts ns) id 0

-- what the dearest path from a node costs
abbrev pub cost_at : List (List Edge) → ℕ → ℕ
cost_at ns id = get_or (table dearest [] ns) id 0

-- how many labels the longest path from a node has
abbrev pub length_at : List (List Edge) → ℕ → ℕ
length_at ns id = get_or (table longest [] ns) id 0

-- the nodes that a walk over the arcs of frames leaves
abbrev pub visited : List (List Edge) → List Frame → List ℕ → List ℕ
visited ns [] done = done
visited ns (f ∷ fs) done = visited ns fs (for_targets (visit ns) f.edges done)

-- labels that rise, and all below a last one
abbrev pub RisesTo : List Edge → ℕ → Type 0
RisesTo [] l = Unit {0}
RisesTo (e ∷ []) l = e.label < l
RisesTo (e ∷ d ∷ es) l = (e.label < d.label) × RisesTo (d ∷ es) l

-- how many paths are under arcs, by those under their targets
abbrev pub total_count : List ℕ → List Edge → ℕ
total_count known [] = 0
total_count known (e ∷ es) = get_or known e.target.0 0 + total_count known es

-- an arc of a node at a depth
pub record IsEdge (ns : List (List Edge)) (depth : ℕ) (e : Edge) : Type 0 where
  pub there : e.target.0 < length ns
  pub label : e.label < 256
  pub dear : e.cost + cost_at ns e.target.0 ≤ 2147483647
  pub long : depth + (1 + length_at ns e.target.0) ≤ 324

-- a node on the last path, at a depth
pub record IsFrame (ns : List (List Edge)) (depth : ℕ) (f : Frame) : Type 0 where
  pub rises : RisesTo f.edges f.label
  pub label_fits : f.label < 256
  pub before : CountedFrom (counts ns) 0 f.edges
  pub count_is : f.count ≡ total_count (counts ns) f.edges
  pub edges_are : AllByRecursion (IsEdge ns depth) f.edges

-- the nodes on the last path from a depth on
abbrev pub AreFrames : List (List Edge) → ℕ → List Frame → Type 0
AreFrames ns depth [] = Unit {0}
AreFrames ns depth (f ∷ fs) = IsFrame ns depth f × AreFrames ns (depth + 1) fs

-- a frozen node with its number
pub record IsNode (ns : List (List Edge)) (id : ℕ) (es : List Edge) : Type 0 where
  pub some : 0 < length es
  pub rising : Rising es
  pub labels : AllByRecursion (λ (e : Edge). e.label < 256) es
  pub below : AllByRecursion (λ (e : Edge). e.target.0 < id) es
  pub before : CountedFrom (counts ns) 0 es

-- the frozen nodes
pub record AreFrozen (ns : List (List Edge)) : Type 0 where
  pub some : 0 < length ns
  pub end_is : get_or ns 0 [] ≡ []
  pub nodes : (id : ℕ) → 0 < id → id < length ns → IsNode ns id (get_or ns id [])
  pub free : (id : ℕ) → 0 < id → id < length ns → is_free (get_or ns id []) ≡ true
  pub once : (i j : ℕ) → i < j → j < length ns
      → same_edges (get_or ns i []) (get_or ns j []) ≡ false
  pub many : (id : ℕ) → count_at ns id ≤ 4194304
  pub dear : (id : ℕ) → cost_at ns id ≤ 2147483647
  pub long : (id : ℕ) → length_at ns id ≤ 324

-- a frozen node that represents the rest of the last path, with the cost that is carried up
pub record IsCarried (ns : List (List Edge)) (fs : List Frame) (id cost count : ℕ) : Type 0 where
  pub there : id < length ns
  pub dear : cost + cost_at ns id ≤ 2147483647
  pub long : length fs + length_at ns id ≤ 324
  pub count_is : count ≡ count_at ns id
  pub pos : 0 < count
  pub walk : visit ns id (visited ns fs []) ≡ from_to (length ns) 0

-- what holds of a builder between two steps
pub record IsOpen (ns : List (List Edge)) (fs : List Frame) (id cost count : ℕ) : Type 0 where
  pub frozen : AreFrozen ns
  pub frames : AreFrames ns 0 fs
  pub carried : IsCarried ns fs id cost count

-- the paths that an open builder has
abbrev pub frame_paths : List (List Edge) → List Frame → ℕ → ℕ → List Tail
frame_paths ns fs id cost = paths_under (known ns) fs (map (with_cost cost) (tails ns id))

-- the arc by which the path goes on, once its rest is frozen
abbrev pub last_edge_of : Frame → ℕ → ℕ → Edge
last_edge_of f id cost =
    record { label = f.label; cost = cost; before = f.count; target = record { 0 = id } }

-- all arcs of a frame, once the rest of its path is frozen
abbrev pub finished_edges : Frame → ℕ → ℕ → List Edge
finished_edges f id cost = f.edges ++ last_edge_of f id cost ∷ []

-- the node that is frozen, its least cost taken out
abbrev pub lowered_node : List Edge → List Edge
lowered_node es = map (lowered_arc (least_of es)) es

-- the nodes after a node was looked up, and added where it wasn't held
pub record IsHeld (ns more : List (List Edge)) (id : ℕ) (es : List Edge) : Type 0 where
  pub there : id < length more
  pub same : same_edges (get_or more id []) es ≡ true
  pub either : (more ≡ ns)
      ⊎ ((more ≡ ns ++ es ∷ []) × (id ≡ length ns) × (holds_same es ns ≡ false))

-- labels from which the path goes on alone
abbrev pub new_frames : List ℕ → List Frame
new_frames [] = []
new_frames (x ∷ xs) = record { label = x; count = 0; edges = [] } ∷ new_frames xs

-- the frame after the path branches off by another label
abbrev pub branched_frame : Frame → ℕ → ℕ → ℕ → ℕ → Frame
branched_frame f id cost count l =
    record { label = l; count = f.count + count; edges = finished_edges f id cost }

-- the labels of the last path
abbrev pub labels_of : List Frame → List ℕ
labels_of [] = []
labels_of (f ∷ fs) = f.label ∷ labels_of fs

-- each number is a byte
abbrev pub AllBytes : List ℕ → Type 0
AllBytes = AllByRecursion (λ (x : ℕ). x < 256)
