-- One node further.
use Rattle.std.proofs.Common.{length}
use Rattle.fst_code.specs.Bytes.{nodes_of}
use Rattle.fst_code.specs.Rules.{free_broken}
use Rattle.fst_code.specs.Views.{edges_of}
use Rattle.fst_code.proofs.SweepLemmas.{there, gone, numbered_begins, numbered_found, numbered_next}
use Rattle.fst_code.proofs.SweepLemmas.{numbered_ends, stands, stands_not}
use Rattle.fst_code.proofs.arc_rules.node_without_free_arc.Goals as goal

pub loop-id-init : goal.loop-id-init
loop-id-init c = numbered_begins (λ id n. free_broken (length (nodes_of c.args.bytes.now)) id n)
    c.args.bytes.now

pub node_in-requires-clause-there : goal.node_in-requires-clause-there
node_in-requires-clause-there c =
    there c.args.bytes.now c.number_at-count.result c.loop-id.id c.requires
    c.number_at-count.ensures c.loop-id-test.true

pub returns-then-not-may_stand : goal.returns-then-not-may_stand
returns-then-not-may_stand c =
    numbered_found (λ id n. free_broken (length (nodes_of c.args.bytes.now)) id n) c.args.bytes.now
    c.loop-id.id _ (edges_of c.node_in.result) c.loop-id.invariant
    (there c.args.bytes.now c.number_at-count.result c.loop-id.id c.requires
    c.number_at-count.ensures c.loop-id-test.true)
    c.node_in.ensures.edges
    (stands_not c.args.bytes.now c.number_at-count.result c.loop-id.id (edges_of c.node_in.result)
    c.may_stand.result c.requires c.number_at-count.ensures c.may_stand.ensures
    c.if-not-may_stand.true)

pub loop-id-preserved : goal.loop-id-preserved
loop-id-preserved c =
    numbered_next (λ id n. free_broken (length (nodes_of c.args.bytes.now)) id n) c.args.bytes.now
    c.loop-id.id (edges_of c.node_in.result) c.loop-id.invariant
    (there c.args.bytes.now c.number_at-count.result c.loop-id.id c.requires
    c.number_at-count.ensures c.loop-id-test.true)
    c.node_in.ensures.edges
    (stands c.args.bytes.now c.number_at-count.result c.loop-id.id (edges_of c.node_in.result)
    c.may_stand.result c.requires c.number_at-count.ensures c.may_stand.ensures
    c.if-not-may_stand.false)

pub returns : goal.returns
returns c = numbered_ends (λ id n. free_broken (length (nodes_of c.args.bytes.now)) id n)
    c.args.bytes.now c.loop-id.id c.loop-id.invariant
    (gone c.args.bytes.now c.number_at-count.result c.loop-id.id c.requires
    c.number_at-count.ensures c.loop-id-test.false)
