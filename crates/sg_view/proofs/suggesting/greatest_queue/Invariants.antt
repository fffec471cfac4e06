-- The greatest queue so far and those to come give that of all.
use Rattle.std.proofs.Common.{◌≡◌, drop, map, max}
use Rattle.std.specs.Prelude.{fold}
use Rattle.std.specs.List.{AllByRecursion}
use Rattle.sg_view.specs.Building.{IsCounted}
use Rattle.sg_view.specs.Searching.{queue_of, greatest_queue}
use Rattle.sg_view.specs.Viewing.{seen_segment}
use Rattle.sg_view.proofs.suggesting.greatest_queue.Given as goal

abbrev pub invariant-loop-viewed : goal.invariant-loop-viewed
invariant-loop-viewed l =
    (fold (λ most s. max most (queue_of l.k s)) l.most
    (map seen_segment (drop l.viewed-index l.segments))
    ≡ greatest_queue l.k (map seen_segment l.segments))
    × AllByRecursion IsCounted (drop l.viewed-index l.segments)
