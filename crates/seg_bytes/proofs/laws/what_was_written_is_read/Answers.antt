-- The law of reading back.
use Rattle.seg_bytes.proofs.BackDocuments.{documents_back}
use Rattle.seg_bytes.proofs.laws.what_was_written_is_read.Goals as goal

pub returns : goal.returns
returns c = documents_back
