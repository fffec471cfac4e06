-- The handle is outside.
use Rattle.index_shared.specs.Sections.{IsAt}
use Rattle.shared_speed.proofs.tests.add_weights.Given as goal

abbrev pub invariant-loop-weight : goal.invariant-loop-weight
invariant-loop-weight g l = IsAt l.initial.index l.handle
