-- One arc more.
use Rattle.std.proofs.Common.{◌++◌}
use Rattle.std.specs.List.{flat_map}
use Rattle.sg_base.specs.declared.node.Edge.{Edge}
use Rattle.fst_code.specs.Bytes.{arc_bytes, first_form}
use Rattle.fst_code.proofs.PutLemmas.{put_step}
use Rattle.fst_code.proofs.writing.put_node.Goals as goal

pub loop-edge-preserved : goal.loop-edge-preserved
loop-edge-preserved c =
    let none : Edge = record { label = 0; cost = 0; before = 0; target = record { 0 = 0 } } in
    put_step (arc_bytes first_form) c.loop-edge.bytes.items c.put_arc.new.bytes.items
    (c.args.bytes.now.items ++ flat_map (arc_bytes first_form) c.args.edges.now)
    c.args.edges.now c.loop-edge.edge-index none c.loop-edge-test.true c.in_ok-put_arc.ensures
    c.loop-edge.invariant
