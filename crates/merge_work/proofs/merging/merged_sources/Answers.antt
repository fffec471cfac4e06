-- One source more is merged.
use Rattle.std.proofs.Common.{◌∙◌, ap, subst, arith, map, drop, List}
use Rattle.std.specs.List.{flat_map}
use Rattle.sg_base.specs.Ranking.{in_order}
use Rattle.sg_paths.specs.Operations.{PlainNumbered}
use Rattle.segment.specs.Represents.{NumbersRise}
use Rattle.merge_work.specs.Merging.{document_cmp}
use Rattle.merge_work.specs.Working.{kept_of, merged}
use Rattle.merge_work.proofs.MergedLemmas.{source_more}
use Rattle.merge_work.proofs.merging.merged_sources.Goals as goal

pub loop-at-preserved : goal.loop-at-preserved
loop-at-preserved c =
    let kept = kept_of c.args.upto (map (λ b. b.value) c.args.batches.now) in
    let p = c.index-pieces-at.result in
    let rest = in_order document_cmp (flat_map kept (drop c.loop-at.at c.args.pieces.now)) in (
      omega (arith, c.loop-at.invariant.0),
      c.in_ok-docs.ensures
          ∙ ap (λ (ds : List PlainNumbered). merged ds c.as_slice-in-loop-at.result.now)
          (c.as_slice.ensures.value ∙ c.in_ok-live.ensures.value)
          ∙ ap (λ (ds : List PlainNumbered). merged (kept p) ds)
          (c.as_slice-in-loop-at.ensures.value ∙ c.loop-at.invariant.1)
          ∙ source_more kept c.args.pieces.now c.loop-at.at p c.loop-at-test.true
          c.loop-at.invariant.0 c.index-pieces-at.is
          (subst (λ (ds : List PlainNumbered). NumbersRise ds) c.in_ok-live.ensures.value
          c.in_ok-live.ensures.rise),
    )
