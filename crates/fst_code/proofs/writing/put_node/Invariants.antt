-- The arcs so far, with those to come, are all.
use Rattle.std.proofs.Common.{◌≡◌, ◌++◌, drop}
use Rattle.std.specs.List.{flat_map}
use Rattle.fst_code.specs.Bytes.{arc_bytes, first_form}
use Rattle.fst_code.proofs.writing.put_node.Given as goal

abbrev pub invariant-loop-edge : goal.invariant-loop-edge
invariant-loop-edge l = l.bytes.items
    ++ flat_map (arc_bytes first_form) (drop l.edge-index l.edges) ≡ l.fn.bytes.items
    ++ flat_map (arc_bytes first_form) l.edges
