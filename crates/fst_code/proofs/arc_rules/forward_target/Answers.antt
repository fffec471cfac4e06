-- One node further.
use Rattle.fst_code.specs.Bytes.{first_form}
use Rattle.fst_code.specs.Rules.{targets_broken}
use Rattle.fst_code.specs.Views.{edges_of}
use Rattle.fst_code.proofs.SweepLemmas.{there, gone, sweep_begins, sweep_next, sweep_ends}
use Rattle.fst_code.proofs.arc_rules.forward_target.Goals as goal

pub loop-id-init : goal.loop-id-init
loop-id-init c = sweep_begins (λ id at n. targets_broken first_form id at n) c.args.bytes.now
    c.number_at-count.result c.requires c.number_at-count.ensures

pub node_in-node-requires-clause-there : goal.node_in-node-requires-clause-there
node_in-node-requires-clause-there c =
    there c.args.bytes.now c.number_at-count.result c.loop-id.id c.requires
    c.number_at-count.ensures c.loop-id-test.true

pub loop-id-preserved : goal.loop-id-preserved
loop-id-preserved c =
    sweep_next (λ id at n. targets_broken first_form id at n) c.args.bytes.now c.loop-id.id
    c.loop-id.at _ (edges_of c.node_in-node.result) c.loop-id.invariant
    (there c.args.bytes.now c.number_at-count.result c.loop-id.id c.requires
    c.number_at-count.ensures c.loop-id-test.true)
    c.node_in-node.ensures.width c.node_in-node.ensures.edges c.in_default.ensures

pub returns : goal.returns
returns c = sweep_ends (λ id at n. targets_broken first_form id at n) c.args.bytes.now c.loop-id.id
    c.loop-id.at c.loop-id.invariant
    (gone c.args.bytes.now c.number_at-count.result c.loop-id.id c.requires
    c.number_at-count.ensures c.loop-id-test.false)
