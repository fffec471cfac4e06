-- The handles of a new index are outside.
use Rattle.std.proofs.Common.{◌+◌, ◌∙◌}
use Rattle.shared_speed.proofs.HandleLemmas.{new_are_at}
use Rattle.shared_speed.proofs.run.Goals as goal

pub run_through_all-requires-clause-at : goal.run_through_all-requires-clause-at
run_through_all-requires-clause-at g c κs within =
    new_are_at c.in-Ok.index (c.args.load.threads + 1) c.as_mut_slice.result.now
    (c.as_mut_slice.ensures.value ∙ c.in-Ok.ensures.handles)
