-- The law.
use Rattle.index_shared.proofs.SectionLemmas.{own_events_stay}
use Rattle.index_shared.proofs.laws.own_events_stay.Goals as goal

pub returns : goal.returns
returns c = own_events_stay
