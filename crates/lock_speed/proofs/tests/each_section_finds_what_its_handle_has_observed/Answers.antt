-- The handles of a new lock are outside.
use Rattle.std.proofs.Common.{◌∙◌}
use Rattle.lock_speed.proofs.VisitLemmas.{new_outside}
use Rattle.lock_speed.proofs.tests.each_section_finds_what_its_handle_has_observed.Goals as goal

pub first_two_come_by-requires-clause-outside : goal.first_two_come_by-requires-clause-outside
first_two_come_by-requires-clause-outside g c κs k h small =
    new_outside c.in_ok-lock.lock 2 c.as_mut_slice.result.now
    (c.as_mut_slice.ensures.value ∙ c.in_ok-lock.ensures.ok) k h small
