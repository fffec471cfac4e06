-- The arc at a place.
use Rattle.std.proofs.Common.{arith}
use Rattle.fst_code.specs.Views.{edges_of}
use Rattle.fst_code.proofs.LoopLemmas.{target_some}
use Rattle.fst_code.proofs.numbering.target_in.Goals as goal

pub returns-clause-value : goal.returns-clause-value
returns-clause-value c = target_some c.args.at (edges_of c.node_in-node.result) _ c.arc.result
    c.node_in-node.ensures.edges (omega (arith, c.count.ensures, c.if-at-count.false))
    (c.arc.ensures c.arc.result)
