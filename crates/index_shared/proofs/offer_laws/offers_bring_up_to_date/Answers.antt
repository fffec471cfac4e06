-- The law.
use Rattle.index_shared.proofs.OfferHandleLemmas.{brings_up_to_date}
use Rattle.index_shared.proofs.offer_laws.offers_bring_up_to_date.Goals as goal

pub returns : goal.returns
returns c = brings_up_to_date
