-- The named views that are left are the open ones.
use Rattle.std.proofs.Common.{length}
use Rattle.sg_shell.specs.Working.{worker_of, Holds}
use Rattle.sg_shell.proofs.engine.Worker.give_back.Given as goal

abbrev pub invariant-loop-last : goal.invariant-loop-last
invariant-loop-last g l = Holds (worker_of l.index l.opened.items)

abbrev pub decreases-loop-last : goal.decreases-loop-last
decreases-loop-last g l = length l.opened.items
