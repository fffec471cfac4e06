-- The law.
use Rattle.index_core.proofs.LivePieceLemmas.{keeps_live}
use Rattle.index_core.proofs.merge_laws.merged_pieces_keep_live_documents.Goals as goal

pub returns : goal.returns
returns c = keeps_live
