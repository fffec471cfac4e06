-- The law.
use Rattle.index_core.proofs.SoundRecordLemmas.{generations_keep}
use Rattle.index_core.proofs.merge_laws.generations_keep_their_documents.Goals as goal

pub returns : goal.returns
returns c = generations_keep
