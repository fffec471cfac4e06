-- What is kept is within the limits of a segment.
use Rattle.std.proofs.Common.{◌≤◌, ◌∙◌, List, length, sym, subst, map}
use Rattle.sg_paths.specs.declared.limits.TheConstants.{MOST_SEGMENT_DOCUMENTS}
use Rattle.sg_paths.specs.declared.limits.TheConstants.{MOST_SEGMENT_PATHS}
use Rattle.sg_paths.specs.Operations.{PlainNumbered}
use Rattle.sg_paths.specs.AllPaths.{path_entries}
use Rattle.segment.specs.Represents.{NumbersRise}
use Rattle.merge_work.proofs.LimitLemmas.{kept_rise, few_kept, few_paths}
use Rattle.merge_work.proofs.job.merged_segment.Goals as goal

pub segment_of-requires : goal.segment_of-requires
segment_of-requires c =
    let bs = map (λ b. b.value) c.args.batches.now in
    let same = sym (c.as_slice.ensures.value ∙ c.in_ok-docs.ensures) in
    record {
      rise = subst (λ (ds : List PlainNumbered). NumbersRise ds) same
          (kept_rise c.args.upto bs c.args.pieces.now c.requires);
      documents = subst (λ (ds : List PlainNumbered). length ds ≤ MOST_SEGMENT_DOCUMENTS) same
          (few_kept c.args.upto bs c.args.pieces.now c.requires);
      paths = subst (λ (ds : List PlainNumbered). length (path_entries 0 ds) ≤ MOST_SEGMENT_PATHS)
          same (few_paths c.args.upto bs c.args.pieces.now c.requires);
    }
