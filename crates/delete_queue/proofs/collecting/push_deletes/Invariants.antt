-- The deletes that are out, continued by those to come, are all deletes.
use Rattle.std.proofs.Common.{◌≡◌, ◌+◌, ◌++◌, drop, map}
use Rattle.sg_paths.specs.Operations.{plain_op}
use Rattle.delete_queue.specs.Deletes.{deletes_from}
use Rattle.delete_queue.proofs.collecting.push_deletes.Given as goal

abbrev pub invariant-loop-i : goal.invariant-loop-i
invariant-loop-i l =
    l.deletes.items ++ deletes_from (l.first + l.i) (map plain_op (drop l.i l.ops))
    ≡ l.initial.deletes.items ++ deletes_from l.first (map plain_op l.ops)
