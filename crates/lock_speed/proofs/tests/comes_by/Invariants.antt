-- The handle is outside.
use Rattle.lock_speed.specs.Visiting.{IsOutside}
use Rattle.lock_speed.proofs.tests.comes_by.Given as goal

abbrev pub invariant-loop-round : goal.invariant-loop-round
invariant-loop-round g l = IsOutside l.initial.lock l.pass
