-- The law.
use Rattle.index_shared.proofs.OwnViewLemmas.{own_views_stay}
use Rattle.index_shared.proofs.laws.own_views_stay.Goals as goal

pub returns : goal.returns
returns c = own_views_stay
