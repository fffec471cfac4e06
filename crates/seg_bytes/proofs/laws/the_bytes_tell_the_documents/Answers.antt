-- The law of one list.
use Rattle.seg_bytes.proofs.BackDocuments.{one_list}
use Rattle.seg_bytes.proofs.laws.the_bytes_tell_the_documents.Goals as goal

pub returns : goal.returns
returns c = one_list
