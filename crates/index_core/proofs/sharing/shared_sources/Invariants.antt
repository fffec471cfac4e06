-- So far those of the first slots are shared.
use Rattle.std.proofs.Common.{◌≡◌, take, map}
use Rattle.index_core.specs.EndedMerges.{sources}
use Rattle.index_core.specs.Slots.{slot_piece}
use Rattle.index_core.proofs.sharing.shared_sources.Given as goal

abbrev pub invariant-loop-slot : goal.invariant-loop-slot
invariant-loop-slot l =
    l.copies.items
    ≡ sources l.gens (map (slot_piece (map (λ b. b.value) l.batches)) (take l.slot-index l.slots))
