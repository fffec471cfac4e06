-- Documents in memory are read back.
use Rattle.seg_bytes.proofs.BackDocuments.{documents_back}
use Rattle.seg_bytes.proofs.ListLemmas.{on_ok}
use Rattle.seg_bytes.proofs.writing.put_documents.Goals as goal

pub returns-clause-read_back : goal.returns-clause-read_back
returns-clause-read_back c =
    on_ok c.put_each.result
    (documents_back c.args.docs.now c.documents_len-bytes.ensures.writable)
