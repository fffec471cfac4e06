-- The merge is open.
use Rattle.shared_speed.proofs.changing.work_merge.Goals as goal

pub drop_merge-requires-clause-begun : goal.drop_merge-requires-clause-begun
drop_merge-requires-clause-begun g c = rw (c.in-Err.ensures.returned) c.requires.begun.opened
