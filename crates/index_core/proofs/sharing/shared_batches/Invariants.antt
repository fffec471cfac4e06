-- So far the first batches are shared.
use Rattle.std.proofs.Common.{◌≡◌, take, map}
use Rattle.index_core.proofs.sharing.shared_batches.Given as goal

abbrev pub invariant-loop-batch : goal.invariant-loop-batch
invariant-loop-batch l =
    map (λ b. b.value) l.copies.items ≡ map (λ b. b.value) (take l.batch-index l.batches)
