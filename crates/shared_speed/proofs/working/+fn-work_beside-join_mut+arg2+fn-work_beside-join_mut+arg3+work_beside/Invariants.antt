-- The handles that are left.
use Rattle.std.proofs.Common.{length, ◌*◌, ◌+◌}
use Rattle.shared_speed.proofs.working.+fn-work_beside-join_mut+arg2+fn-work_beside-join_mut+arg3+work_beside.Given as goal

abbrev pub decreases-join_mut+arg2 : goal.decreases-join_mut+arg2
decreases-join_mut+arg2 g l = 2 * length l.left.now + 1

abbrev pub decreases-join_mut+arg3 : goal.decreases-join_mut+arg3
decreases-join_mut+arg3 g l = 2 * length l.right.now + 1

abbrev pub decreases-work_beside : goal.decreases-work_beside
decreases-work_beside g l = 2 * length l.handles.now
