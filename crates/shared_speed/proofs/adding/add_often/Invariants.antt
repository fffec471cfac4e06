-- As many documents are added as there were rounds.
use Rattle.index_shared.specs.Sections.{IsAt}
use Rattle.shared_speed.specs.Sharing.{HasAccepted}
use Rattle.shared_speed.proofs.adding.add_often.Given as goal

abbrev pub invariant-loop-round : goal.invariant-loop-round
invariant-loop-round g l =
    HasAccepted l.round l.initial.handle l.handle × IsAt l.initial.index l.handle
