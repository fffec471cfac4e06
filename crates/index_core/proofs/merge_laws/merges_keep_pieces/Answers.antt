-- The law.
use Rattle.index_core.proofs.EndedPieceLemmas.{merges_keep}
use Rattle.index_core.proofs.merge_laws.merges_keep_pieces.Goals as goal

pub returns : goal.returns
returns c = merges_keep
