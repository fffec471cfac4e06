-- The lines so far ran, and the worker's views are open.
use Rattle.std.proofs.Common.{◌≤◌, ◌+◌, length}
use Rattle.sg_shell.specs.Working.{worker_of, IsWorking}
use Rattle.sg_shell.proofs.ReplyLemmas.{RanSoFar}
use Rattle.sg_shell.proofs.replying.replies_by.Given as goal

abbrev pub invariant-loop-split : goal.invariant-loop-split
invariant-loop-split g l =
    RanSoFar l.input l.number l.rest l.output.items (worker_of l.worker.index l.worker.opened.items)
    × IsWorking l.worker.index l.worker.opened.items
    × (l.number + length l.rest ≤ length l.input)

abbrev pub decreases-loop-split : goal.decreases-loop-split
decreases-loop-split g l = length l.rest
