-- Fewer entries are left.
use Rattle.std.proofs.Common.{length}
use Rattle.path_desk.proofs.queue.give_all.Given as goal

abbrev pub decreases-loop-held : goal.decreases-loop-held
decreases-loop-held l = length l.waiting.items
