-- The closing of segments' reports.
use Rattle.sg_answers.proofs.ClosingLemmas.{closes_soundly}
use Rattle.sg_answers.proofs.laws.sound_segments_make_a_sound_view.Goals as goal

pub returns : goal.returns
returns c = closes_soundly
