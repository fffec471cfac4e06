-- The handle came by as often as there were rounds, and is outside.
use Rattle.lock_speed.specs.Visiting.{CameBy, IsOutside}
use Rattle.lock_speed.proofs.visits.visit_often.Given as goal

abbrev pub invariant-loop-round : goal.invariant-loop-round
invariant-loop-round g l = CameBy l._round l.initial.pass l.pass × IsOutside l.initial.lock l.pass
