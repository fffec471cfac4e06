-- The deletes that are out, continued by those to come, are all deletes.
use Rattle.std.proofs.Common.{◌≡◌, ◌++◌, drop, map}
use Rattle.delete_queue.specs.Deletes.{deletes_between}
use Rattle.delete_queue.proofs.collecting.deletes_between.Given as goal

abbrev pub invariant-loop-batch : goal.invariant-loop-batch
invariant-loop-batch l =
    l.deletes.items
    ++ deletes_between l.applied l.upto (map (λ b. b.value) (drop l.batch-index l.batches))
    ≡ deletes_between l.applied l.upto (map (λ b. b.value) l.batches)
