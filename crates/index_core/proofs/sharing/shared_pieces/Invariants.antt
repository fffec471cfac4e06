-- So far the first slots are shared.
use Rattle.std.proofs.Common.{◌≡◌, take, map}
use Rattle.index_core.specs.Slots.{slot_piece}
use Rattle.index_core.proofs.sharing.shared_pieces.Given as goal

abbrev pub invariant-loop-slot : goal.invariant-loop-slot
invariant-loop-slot l =
    l.copies.items ≡ map (slot_piece (map (λ b. b.value) l.batches)) (take l.slot-index l.slots)
