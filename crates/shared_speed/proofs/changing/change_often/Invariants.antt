-- The handle is outside.
use Rattle.index_shared.specs.Sections.{IsAt}
use Rattle.shared_speed.proofs.changing.change_often.Given as goal

abbrev pub invariant-loop-round : goal.invariant-loop-round
invariant-loop-round g l = IsAt l.initial.index l.handle
