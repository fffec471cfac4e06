-- The handles of a new lock are outside.
use Rattle.std.proofs.Common.{◌∙◌}
use Rattle.lock_speed.proofs.VisitLemmas.{new_outside}
use Rattle.lock_speed.proofs.run.Goals as goal

pub visit_and_look-requires-clause-outside : goal.visit_and_look-requires-clause-outside
visit_and_look-requires-clause-outside g c κs lives k h small =
    new_outside c.in_ok-lock.lock c.args.threads c.as_mut_slice.result.now
    (c.as_mut_slice.ensures.value ∙ c.in_ok-lock.ensures.ok) k h small
