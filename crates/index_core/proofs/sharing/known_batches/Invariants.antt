-- Those that are known, and those of the rest, are all that are known.
use Rattle.std.proofs.Common.{◌≡◌, ◌+◌, drop, map}
use Rattle.index_core.specs.Keeping.{known_batches}
use Rattle.index_core.proofs.sharing.known_batches.Given as goal

abbrev pub invariant-loop-batch : goal.invariant-loop-batch
invariant-loop-batch l =
    (l.known ≡ l.batch-index)
    × (l.known + known_batches l.least (map (λ b. b.value) (drop l.batch-index l.batches))
    ≡ known_batches l.least (map (λ b. b.value) l.batches))
