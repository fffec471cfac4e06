-- The operations that are left give the answer.
use Rattle.std.proofs.Common.{◌≡◌, map, drop}
use Rattle.std.specs.List.{list_any}
use Rattle.sg_paths.specs.Operations.{plain_op}
use Rattle.sg_paths.specs.LiveDocuments.{deletes_id}
use Rattle.sg_paths.proofs.live.any_deletes.Given as goal

abbrev pub invariant-loop-op : goal.invariant-loop-op
invariant-loop-op l =
    list_any (deletes_id l.id) (map plain_op l.ops)
    ≡ list_any (deletes_id l.id) (map plain_op (drop l.op-index l.ops))
