-- The law of reading only what is written.
use Rattle.seg_bytes.proofs.OnlyDocuments.{documents_only}
use Rattle.seg_bytes.proofs.laws.what_is_read_was_written.Goals as goal

pub returns : goal.returns
returns c = documents_only
