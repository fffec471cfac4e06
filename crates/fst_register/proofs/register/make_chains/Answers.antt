-- One node more in its chain.
use Rattle.std.proofs.Common.{arith, ◌≡◌, ◌<◌, ◌+◌, length, get_or, set, sym, ◌∙◌, ap, length-set}
use Rattle.std.proofs.Common.{refl}
use Rattle.std.proofs.lemmas.List.{get_or-set_other, get_or-set_same, get_or_read}
use Rattle.sg_base.specs.Chains.{bucket_in}
use Rattle.sg_base.specs.Hashes.{bucket}
use Rattle.sg_base.proofs.ChainLemmas.{chained_push}
use Rattle.fst_register.proofs.register.make_chains.Goals as goal

pub loop-id-preserved : goal.loop-id-preserved
loop-id-preserved c =
    let heads = c.loop-id.heads.items in
    let chain = c.loop-id.chain in
    let id = c.loop-id.id in
    let b = c.node_bucket-bucket.result in
    let inv = c.loop-id.invariant in
    let v = c.index.result.now in
    let below : b < length heads = omega (arith, inv.buckets, c.node_bucket-bucket.ensures.below) in
    let is : v ≡ get_or heads b 0 = get_or_read heads b v below c.index.ensures 0 in
    let ns = bucket_in c.args.buckets c.args.nodes.now in
    let there : id < length chain =
    omega (arith, c.loop-id.auto.chain, c.requires.cells, c.loop-id-test.true) in
    record {
      buckets = length-set heads b (id + 1) ∙ inv.buckets;
      chained =
          chained_push heads (λ i. get_or chain i 0) (λ i. get_or (set chain id v) i 0) ns ns b id
          inv.chained below
          (sym (c.node_bucket-bucket.ensures.value ∙ ap (bucket c.args.buckets) c.node.ensures))
          (λ i h. refl) (get_or-set_same chain id v 0 there ∙ is)
          (λ i h. get_or-set_other chain id i v 0 (λ e. omega (arith, e, h)));
    }
