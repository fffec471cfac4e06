-- The law.
use Rattle.index_shared.proofs.OfferCountLemmas.{count_segments}
use Rattle.index_shared.proofs.offer_laws.offers_count_segments.Goals as goal

pub returns : goal.returns
returns c = count_segments
