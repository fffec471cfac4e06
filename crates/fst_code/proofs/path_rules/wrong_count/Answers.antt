-- One node further.
use Rattle.std.proofs.Common.{◌+◌, ◌-◌, ◌∙◌, ap, sym, subst, List, ℕ, length, get_or}
use Rattle.fst_code.specs.Bytes.{first_form, nodes_of}
use Rattle.fst_code.specs.Rules.{counts_broken}
use Rattle.fst_code.specs.Tails.{counted}
use Rattle.fst_code.specs.Views.{edges_of}
use Rattle.fst_code.proofs.SweepLemmas.{there, gone, sweep_begins}
use Rattle.fst_code.proofs.GrowLemmas.{Grown, grown_begins}
use Rattle.fst_code.proofs.CountLemmas.{Counting, miscounts, counting_found, counting_many}
use Rattle.fst_code.proofs.CountLemmas.{counting_next, counting_ends}
use Rattle.fst_code.proofs.path_rules.wrong_count.Goals as goal

pub loop-id-init : goal.loop-id-init
loop-id-init c = record {
  sweep = sweep_begins (miscounts (nodes_of c.args.bytes.now)) c.args.bytes.now
      c.number_at-count.result c.requires.framed c.number_at-count.ensures;
  grown = subst (λ (k : List ℕ). Grown counted c.args.bytes.now 0 k) (sym c.in_ok-known.ensures.items)
      (grown_begins counted c.args.bytes.now);
}

pub node_in-node-requires-clause-there : goal.node_in-node-requires-clause-there
node_in-node-requires-clause-there c =
    there c.args.bytes.now c.number_at-count.result c.loop-id.id c.requires.framed
    c.number_at-count.ensures c.loop-id-test.true

pub returns-in-Err : goal.returns-in-Err
returns-in-Err c =
    counting_found c.args.bytes.now c.loop-id.id c.loop-id.at
    (length c.node_in-node.result.arcs.now) c.in-Err.found c.loop-id.known.items
    (edges_of c.node_in-node.result) c.loop-id.invariant c.requires.below
    (there c.args.bytes.now c.number_at-count.result c.loop-id.id c.requires.framed
    c.number_at-count.ensures c.loop-id-test.true)
    c.node_in-node.ensures.width c.node_in-node.ensures.edges
    (c.in-Err.ensures.err ∙ ap (λ (k : List ℕ). counts_broken first_form k 0 c.loop-id.at
    (edges_of c.node_in-node.result)) c.deref.ensures.value)

pub returns-then-paths-gt-MOST_PATHS : goal.returns-then-paths-gt-MOST_PATHS
returns-then-paths-gt-MOST_PATHS c =
    counting_many c.args.bytes.now c.loop-id.id c.loop-id.at (length c.node_in-node.result.arcs.now)
    c.in-Ok.paths c.loop-id.known.items (edges_of c.node_in-node.result) c.loop-id.invariant
    c.requires.below
    (there c.args.bytes.now c.number_at-count.result c.loop-id.id c.requires.framed
    c.number_at-count.ensures c.loop-id-test.true)
    c.node_in-node.ensures.width c.node_in-node.ensures.edges
    (c.in-Ok.ensures.ok.0 ∙ ap (λ (k : List ℕ). counts_broken first_form k 0 c.loop-id.at
    (edges_of c.node_in-node.result)) c.deref.ensures.value)
    (c.in-Ok.ensures.ok.1 ∙ ap (λ (k : List ℕ). counted k (edges_of c.node_in-node.result))
    c.deref.ensures.value)
    c.if-paths-gt-MOST_PATHS.true

pub loop-id-preserved : goal.loop-id-preserved
loop-id-preserved c =
    subst (λ (k : List ℕ). Counting c.args.bytes.now (c.loop-id.id + 1)
    (c.loop-id.at + length c.node_in-node.result.arcs.now) k)
    (sym c.in_ok-push-in-Ok.ensures.items)
    (counting_next c.args.bytes.now c.loop-id.id c.loop-id.at
    (length c.node_in-node.result.arcs.now) c.in-Ok.paths c.loop-id.known.items
    (edges_of c.node_in-node.result) c.loop-id.invariant c.requires.below
    (there c.args.bytes.now c.number_at-count.result c.loop-id.id c.requires.framed
    c.number_at-count.ensures c.loop-id-test.true)
    c.node_in-node.ensures.width c.node_in-node.ensures.edges
    (c.in-Ok.ensures.ok.0 ∙ ap (λ (k : List ℕ). counts_broken first_form k 0 c.loop-id.at
    (edges_of c.node_in-node.result)) c.deref.ensures.value)
    (c.in-Ok.ensures.ok.1 ∙ ap (λ (k : List ℕ). counted k (edges_of c.node_in-node.result))
    c.deref.ensures.value)
    c.if-paths-gt-MOST_PATHS.false)

pub returns : goal.returns
returns c =
    counting_ends c.args.bytes.now c.loop-id.id c.loop-id.at c.root_count.result
    c.loop-id.known.items c.wrong_header_count.result c.loop-id.invariant
    (gone c.args.bytes.now c.number_at-count.result c.loop-id.id c.requires.framed
    c.number_at-count.ensures c.loop-id-test.false)
    (c.root_count.ensures ∙ ap (λ (k : List ℕ). get_or k (length k - 1) 0) c.deref-2.ensures.value)
    c.wrong_header_count.ensures
