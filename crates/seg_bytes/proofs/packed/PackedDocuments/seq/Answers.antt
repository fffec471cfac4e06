-- The bytes begin with the document.
use Rattle.seg_bytes.proofs.PackedLemmas.{some_document}
use Rattle.seg_bytes.proofs.packed.PackedDocuments.seq.Goals as goal

pub seq_in-requires : goal.seq_in-requires
seq_in-requires c = (_, _, c.bytes_from.ensures some_document)
