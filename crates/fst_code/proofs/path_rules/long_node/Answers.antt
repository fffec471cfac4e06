-- One node further.
use Rattle.std.proofs.Common.{◌∙◌, ◌+◌, ap, sym, subst, List, ℕ}
use Rattle.fst_code.specs.Tails.{longest}
use Rattle.fst_code.specs.Views.{edges_of}
use Rattle.fst_code.proofs.SweepLemmas.{there, gone}
use Rattle.fst_code.proofs.GrowLemmas.{Tabled, tabled_found, tabled_next, tabled_ends}
use Rattle.fst_code.proofs.path_rules.long_node.Goals as goal

pub node_in-requires-clause-there : goal.node_in-requires-clause-there
node_in-requires-clause-there c =
    there c.args.bytes.now c.number_at-count.result c.loop-id.id c.requires
    c.number_at-count.ensures c.loop-id-test.true

pub returns-then-most-gt-MOST_LABELS : goal.returns-then-most-gt-MOST_LABELS
returns-then-most-gt-MOST_LABELS c =
    tabled_found longest 324 c.args.bytes.now c.loop-id.id c.greatest_length-most.result
    c.loop-id.known.items (edges_of c.node_in.result) c.loop-id.invariant
    (there c.args.bytes.now c.number_at-count.result c.loop-id.id c.requires
    c.number_at-count.ensures c.loop-id-test.true)
    c.node_in.ensures.edges (c.greatest_length-most.ensures
    ∙ ap (λ (k : List ℕ). longest k (edges_of c.node_in.result)) c.deref.ensures.value)
    c.if-most-gt-MOST_LABELS.true

pub loop-id-preserved : goal.loop-id-preserved
loop-id-preserved c =
    subst (λ (k : List ℕ). Tabled longest 324 c.args.bytes.now (c.loop-id.id + 1) k)
    (sym c.in_ok-push.ensures.items) (
    tabled_next longest 324 c.args.bytes.now c.loop-id.id c.greatest_length-most.result
    c.loop-id.known.items (edges_of c.node_in.result) c.loop-id.invariant
    (there c.args.bytes.now c.number_at-count.result c.loop-id.id c.requires
    c.number_at-count.ensures c.loop-id-test.true)
    c.node_in.ensures.edges (c.greatest_length-most.ensures
    ∙ ap (λ (k : List ℕ). longest k (edges_of c.node_in.result)) c.deref.ensures.value)
    c.if-most-gt-MOST_LABELS.false)

pub returns : goal.returns
returns c = tabled_ends longest 324 c.args.bytes.now c.loop-id.id c.loop-id.known.items
    c.loop-id.invariant (gone c.args.bytes.now c.number_at-count.result c.loop-id.id c.requires
    c.number_at-count.ensures c.loop-id-test.false)
