-- The law.
use Rattle.index_shared.proofs.OwnMergeLemmas.{own_merges_stay}
use Rattle.index_shared.proofs.laws.own_merges_stay.Goals as goal

pub returns : goal.returns
returns c = own_merges_stay
