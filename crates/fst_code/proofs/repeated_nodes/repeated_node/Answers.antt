-- One node more in its chain.
use Rattle.std.proofs.Common.{arith, ◌≡◌, ◌<◌, ◌≤◌, ◌+◌, ◌∙◌, ℕ, List, [], length, get_or, set, sym}
use Rattle.std.proofs.Common.{ap, length-set, refl, take}
use Rattle.std.proofs.Math.ListN.{drop_of_length-le}
use Rattle.std.proofs.lemmas.List.{get_or-set_other, get_or-set_same, get_or_read}
use Rattle.fst_code.specs.Bytes.{nodes_of}
use Rattle.sg_base.specs.Chains.{bucket_in}
use Rattle.sg_base.specs.Hashes.{bucket}
use Rattle.fst_code.specs.Rules.{repeated}
use Rattle.sg_base.proofs.ChainLemmas.{chained_push}
use Rattle.fst_code.proofs.ViewLemmas.{parts_framed}
use Rattle.fst_code.proofs.RepeatLemmas.{repeated_found, repeated_passed, chained_code}
use Rattle.fst_code.proofs.repeated_nodes.repeated_node.Goals as goal

pub node_in-requires-clause-there : goal.node_in-requires-clause-there
node_in-requires-clause-there c =
    let n = (parts_framed c.args.bytes.now c.requires).count in
    omega (arith, n, c.number_at-count.ensures, c.loop-id-test.true)

pub is_repeated-requires-clause-there : goal.is_repeated-requires-clause-there
is_repeated-requires-clause-there c =
    let n = (parts_framed c.args.bytes.now c.requires).count in
    omega (arith, n, c.number_at-count.ensures, c.loop-id-test.true)

pub is_repeated-requires-clause-cells : goal.is_repeated-requires-clause-cells
is_repeated-requires-clause-cells c =
    ap (λ (v : List ℕ). length v) c.deref-in-loop-id.ensures.value ∙ c.loop-id.invariant.cells
    ∙ c.number_at-count.ensures ∙ sym (parts_framed c.args.bytes.now c.requires).count

pub is_repeated-requires-clause-chained : goal.is_repeated-requires-clause-chained
is_repeated-requires-clause-chained c =
    chained_code c.loop-id.heads.items c.deref.result.now c.loop-id.chain.items
    c.deref-in-loop-id.result.now (nodes_of c.args.bytes.now) c.if-count-lt4294967295.buckets
    c.loop-id.id c.deref.ensures.value c.deref-in-loop-id.ensures.value
    c.loop-id.invariant.heads c.loop-id.invariant.chained

pub returns-then-is_repeated : goal.returns-then-is_repeated
returns-then-is_repeated c =
    let ns = nodes_of c.args.bytes.now in
    let n = (parts_framed c.args.bytes.now c.requires).count in
    repeated_found ns c.loop-id.id (repeated 0 [] ns)
    (omega (arith, n, c.number_at-count.ensures, c.loop-id-test.true)) c.loop-id.invariant.rest
    (sym c.if-is_repeated.true ∙ c.is_repeated.ensures)

pub loop-id-preserved : goal.loop-id-preserved
loop-id-preserved c =
    let ns = nodes_of c.args.bytes.now in
    let p = (parts_framed c.args.bytes.now c.requires).count in
    let h : c.loop-id.id < length ns =
    omega (arith, p, c.number_at-count.ensures, c.loop-id-test.true) in
    let heads = c.loop-id.heads.items in
    let chain = c.loop-id.chain.items in
    let id = c.loop-id.id in
    let b = c.node_bucket-bucket.result in
    let inv = c.loop-id.invariant in
    let v = c.index.result.now in
    let below : b < length heads = omega (arith, inv.heads, c.node_bucket-bucket.ensures.below) in
    let is : v ≡ get_or heads b 0 = get_or_read heads b v below c.index.ensures 0 in
    let at = bucket_in c.if-count-lt4294967295.buckets ns in
    record {
      heads = length-set heads b (id + 1) ∙ inv.heads;
      cells = length-set chain id v ∙ inv.cells;
      chained = chained_push heads (λ i. get_or chain i 0) (λ i. get_or (set chain id v) i 0) at at
          b id inv.chained below
          (sym (c.node_bucket-bucket.ensures.value
          ∙ ap (bucket c.if-count-lt4294967295.buckets) c.node_in.ensures.edges))
          (λ i k. refl)
          (get_or-set_same chain id v 0 (omega (arith, inv.cells, c.loop-id-test.true)) ∙ is)
          (λ i k. get_or-set_other chain id i v 0 (λ e. omega (arith, e, k)));
      rest = repeated_passed ns id (repeated 0 [] ns) h inv.rest
          (sym c.if-is_repeated.false ∙ c.is_repeated.ensures);
    }

pub returns : goal.returns
returns c =
    let ns = nodes_of c.args.bytes.now in
    let n = (parts_framed c.args.bytes.now c.requires).count in
    let l : length ns ≤ c.loop-id.id =
    omega (arith, n, c.number_at-count.ensures, c.loop-id-test.false) in
    ap (repeated c.loop-id.id (take c.loop-id.id ns)) (sym (drop_of_length-le ns l))
    ∙ c.loop-id.invariant.rest
