-- Where the numbers of a transducer stand in its bytes. Source: this project's own format.
use Rattle.std.specs.Prelude.{ℕ, zero, suc, ◌+◌, ◌*◌, ◌-◌, List, [], ◌∷◌, ◌++◌, take, drop, get_or}
use Rattle.std.specs.Prelude.{length}
use Rattle.std.specs.List.{flat_map, sum_by}
use Rattle.std.specs.Int.{Width, w32, byte_len, from_be_bytes, to_be_bytes}
use Rattle.sg_base.specs.declared.node.Edge.{Edge}

-- what differs between the formats
pub record Form : Type 0 where
  pub name : List ℕ
  pub cost : Width
  pub most : ℕ

-- format 1
abbrev pub first_form : Form
first_form = record { name = 83 ∷ 71 ∷ 84 ∷ 49 ∷ []; cost = w32; most = 2147483647 }

-- how many bytes an arc has
abbrev pub wide : Form → ℕ
wide f = 9 + byte_len f.cost

-- the number at an offset, the greatest byte first
abbrev pub number_at : Width → ℕ → List ℕ → ℕ
number_at w at bytes = from_be_bytes w (take (byte_len w) (drop at bytes))

-- the arc at an offset: its label, cost, before and target
abbrev pub arc_at : Form → ℕ → List ℕ → Edge
arc_at f at bytes = record {
  label = get_or bytes at 0;
  cost = number_at f.cost (at + 1) bytes;
  before = number_at w32 (at + (1 + byte_len f.cost)) bytes;
  target = record { 0 = number_at w32 (at + (5 + byte_len f.cost)) bytes };
}

-- so many arcs from an offset on
abbrev pub arcs_at : Form → ℕ → ℕ → List ℕ → List Edge
arcs_at f zero at bytes = []
arcs_at f (suc n) at bytes = arc_at f at bytes ∷ arcs_at f n (at + wide f) bytes

-- the header's number of nodes
abbrev pub node_count : List ℕ → ℕ
node_count = number_at w32 4

-- the header's number of arcs
abbrev pub arc_count : List ℕ → ℕ
arc_count = number_at w32 8

-- the header's number of paths
abbrev pub path_count : List ℕ → ℕ
path_count = number_at w32 12

-- the offset of a node's entry
abbrev pub entry : ℕ → ℕ
entry id = 16 + 4 * id

-- so many numbers of four bytes from an offset on
abbrev pub numbers_at : ℕ → ℕ → List ℕ → List ℕ
numbers_at zero at bytes = []
numbers_at (suc n) at bytes = number_at w32 at bytes ∷ numbers_at n (at + 4) bytes

-- for each node, how many arcs it and all nodes before it have
abbrev pub entries : List ℕ → List ℕ
entries bytes = numbers_at (node_count bytes) 16 bytes

-- the nodes whose entries are given, after a node with the entry from, and from an offset on
abbrev pub nodes_from : Form → ℕ → ℕ → List ℕ → List ℕ → List (List Edge)
nodes_from f from at [] bytes = []
nodes_from f from at (e ∷ es) bytes =
    arcs_at f (e - from) at bytes ∷ nodes_from f e (at + wide f * (e - from)) es bytes

-- the nodes that bytes of a format hold
abbrev pub nodes_in : Form → List ℕ → List (List Edge)
nodes_in f bytes = nodes_from f 0 (entry (node_count bytes)) (entries bytes) bytes

-- the nodes of a transducer's bytes
abbrev pub nodes_of : List ℕ → List (List Edge)
nodes_of = nodes_in first_form

-- the bytes of an arc
abbrev pub arc_bytes : Form → Edge → List ℕ
arc_bytes f e = e.label ∷ to_be_bytes f.cost e.cost ++ to_be_bytes w32 e.before
    ++ to_be_bytes w32 e.target.0

-- the entries of nodes, after so many arcs
abbrev pub entry_bytes : ℕ → List (List Edge) → List ℕ
entry_bytes from [] = []
entry_bytes from (n ∷ ns) = to_be_bytes w32 (from + length n) ++ entry_bytes (from + length n) ns

-- the bytes of a list of nodes with the root's number of paths
abbrev pub encoding : Form → ℕ → List (List Edge) → List ℕ
encoding f paths nodes = f.name ++ to_be_bytes w32 (length nodes)
    ++ to_be_bytes w32 (sum_by (λ (n : List Edge). length n) nodes) ++ to_be_bytes w32 paths
    ++ entry_bytes 0 nodes ++ flat_map (flat_map (arc_bytes f)) nodes

-- the name and the counts of format 1
abbrev pub head_bytes : ℕ → ℕ → ℕ → List ℕ
head_bytes nodes arcs paths = 83 ∷ 71 ∷ 84 ∷ 49 ∷ to_be_bytes w32 nodes ++ to_be_bytes w32 arcs
    ++ to_be_bytes w32 paths

-- how many arcs the nodes before a node have
abbrev pub arcs_before_node : ℕ → List ℕ → ℕ
arcs_before_node zero bytes = 0
arcs_before_node (suc id) bytes = number_at w32 (16 + 4 * id) bytes
