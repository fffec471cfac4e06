-- The handles that are left.
use Rattle.std.proofs.Common.{length, ◌*◌, ◌+◌}
use Rattle.lock_speed.proofs.visits.+fn-visit_beside-join_mut+arg2+fn-visit_beside-join_mut+arg3+visit_beside.Given as goal

abbrev pub decreases-join_mut+arg2 : goal.decreases-join_mut+arg2
decreases-join_mut+arg2 g l = 2 * length l.left.now + 1

abbrev pub decreases-join_mut+arg3 : goal.decreases-join_mut+arg3
decreases-join_mut+arg3 g l = 2 * length l.right.now + 1

abbrev pub decreases-visit_beside : goal.decreases-visit_beside
decreases-visit_beside g l = 2 * length l.passes.now
