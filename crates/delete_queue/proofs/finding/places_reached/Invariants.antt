-- The places that are out, continued by those to come, are all places.
use Rattle.std.proofs.Common.{◌≡◌, ◌++◌, drop}
use Rattle.delete_queue.specs.DeleteOrder.{latest_behind, latest}
use Rattle.delete_queue.specs.Reached.{places_reached}
use Rattle.delete_queue.proofs.finding.places_reached.Given as goal

abbrev pub invariant-loop-delete : goal.invariant-loop-delete
invariant-loop-delete l =
    l.dead.items
    ++ places_reached l.table (latest_behind l.kept (drop l.delete-index l.later))
    ≡ places_reached l.table (latest l.deletes)
