-- Past its place, nothing is left of an operation.
use Rattle.sg_paths.proofs.LiveDocumentsLemmas.{reaches_earlier}
use Rattle.sg_paths.proofs.live.deletes_reach_earlier_documents_only.Goals as goal

pub returns : goal.returns
returns c = reaches_earlier
