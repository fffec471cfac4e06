-- As many nodes as ends.
use Rattle.std.proofs.Common.{length, ap, arith}
use Rattle.fst_register.proofs.NodeListLemmas.{length-nodes_between}
use Rattle.fst_register.proofs.nodes.Nodes.node.Goals as goal

pub node_of-requires-clause-there : goal.node_of-requires-clause-there
node_of-requires-clause-there c =
    let n = length-nodes_between 0 c.self.inside.ends.items c.self.inside.edges.items in
    let v = ap length c.self.view_is in
    let e = ap length c.deref.ensures.value in
    omega (arith, n, v, e, c.requires)
