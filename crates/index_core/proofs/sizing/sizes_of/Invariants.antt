-- So far the sizes of the first slots are out.
use Rattle.std.proofs.Common.{◌≡◌, take}
use Rattle.std.specs.List.{filter_map, AllByRecursion}
use Rattle.index_core.specs.PlannedMerges.{IsWithinSegment}
use Rattle.index_core.specs.Slots.{slot_size}
use Rattle.index_core.proofs.sizing.sizes_of.Given as goal

abbrev pub invariant-loop-slot : goal.invariant-loop-slot
invariant-loop-slot l =
    (l.sizes.items ≡ filter_map (slot_size l.merged) (take l.slot-index l.slots))
    × AllByRecursion IsWithinSegment l.sizes.items
