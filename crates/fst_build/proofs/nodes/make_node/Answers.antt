-- No cost is below the least.
use Rattle.std.proofs.Common.{arith}
use Rattle.sg_base.specs.declared.node.Edge.{Edge}
use Rattle.fst_build.proofs.LoweringLemmas.{least_at, least_last}
use Rattle.fst_build.proofs.nodes.make_node.Goals as goal

pub lower-requires : goal.lower-requires
lower-requires c =
    let none : Edge = record { label = 0; cost = 0; before = 0; target = record { 0 = 0 } } in
    let l = least_at c.args.finished.now c.args.last none c.loop-edge.edge-index
    c.loop-edge-test.true in
    omega (arith, l, c.requires)

pub lower-requires-2 : goal.lower-requires-2
lower-requires-2 c =
    let l = least_last c.args.finished.now c.args.last in
    omega (arith, l, c.requires)
