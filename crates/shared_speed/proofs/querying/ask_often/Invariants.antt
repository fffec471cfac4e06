-- The handle is outside, with the same views open.
use Rattle.index_shared.specs.Sections.{IsAt}
use Rattle.shared_speed.specs.Sharing.{KeepsViews}
use Rattle.shared_speed.proofs.querying.ask_often.Given as goal

abbrev pub invariant-loop-round : goal.invariant-loop-round
invariant-loop-round g l =
    IsAt l.initial.index l.handle × KeepsViews l.initial.handle l.handle
