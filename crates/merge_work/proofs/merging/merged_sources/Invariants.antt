-- The last sources are merged.
use Rattle.std.proofs.Common.{◌≡◌, ◌≤◌, drop, length, map}
use Rattle.std.specs.List.{flat_map}
use Rattle.sg_base.specs.Ranking.{in_order}
use Rattle.merge_work.specs.Merging.{document_cmp}
use Rattle.merge_work.specs.Working.{kept_of}
use Rattle.merge_work.proofs.merging.merged_sources.Given as goal

abbrev pub invariant-loop-at : goal.invariant-loop-at
invariant-loop-at l =
    (l.at ≤ length l.pieces)
    × (l.docs.items ≡ in_order document_cmp
    (flat_map (kept_of l.upto (map (λ b. b.value) l.batches)) (drop l.at l.pieces)))

abbrev pub decreases-loop-at : goal.decreases-loop-at
decreases-loop-at l = l.at
