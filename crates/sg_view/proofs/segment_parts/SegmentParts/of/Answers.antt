-- The parts of a segment are what a search may rely on.
use Rattle.std.proofs.lemmas.List.Elements.{recursion_from_All}
use Rattle.sg_paths.specs.AllPaths.{all_paths}
use Rattle.sg_paths.specs.PathLaws.{IsLegal}
use Rattle.sg_view.proofs.SegmentLemmas.{is_segment}
use Rattle.sg_view.proofs.segment_parts.SegmentParts.of.Goals as goal

pub invariant_of-result : goal.invariant_of-result
invariant_of-result c =
    is_segment c.args.segment.now c.table.result.now c.transducer.result.now
    c.table.ensures.documents c.table.ensures.rise c.table.ensures.most
    (recursion_from_All (λ p. IsLegal p.entry) (all_paths c.args.segment.now) c.table.ensures.legal)
    c.transducer.ensures.maps c.transducer.ensures.sound c.transducer.ensures.contexts
