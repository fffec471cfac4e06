-- The text of documents is one.
use Rattle.segment.proofs.RoundLemmas.{finds_one}
use Rattle.segment.proofs.laws.one_thing_is_found.Goals as goal

pub returns : goal.returns
returns c = finds_one
