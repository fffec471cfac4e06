-- The arcs that a view of a node shows. Source: this project's own.
use Rattle.std.specs.Prelude.{List, length, ◌/◌}
use Rattle.sg_base.specs.declared.node.Edge.{Edge}
use Rattle.fst_code.specs.declared.node_ref.NodeRef.{NodeRef}
use Rattle.fst_code.specs.Bytes.{first_form, arcs_at}

-- the arcs of a view
abbrev pub edges_of : NodeRef → List Edge
edges_of n = arcs_at first_form (length n.arcs.now / 13) 0 n.arcs.now
