-- What was read stands there as it is written.
use Rattle.seg_bytes.specs.DocumentBytes.{documents_bytes}
use Rattle.seg_bytes.proofs.OnlyLemmas.{bytes_of}
use Rattle.seg_bytes.proofs.OnlyDocuments.{documents_only, stands_within}
use Rattle.seg_bytes.proofs.documents.read_documents.Goals as goal

pub returns-clause-written : goal.returns-clause-written
returns-clause-written c =
    let all = c.in_ok-all.all in
    let bytes = c.args.bytes.now in
    (documents_only c.args.count bytes c.args.at all.value.items all.end
    (bytes_of bytes c.type_inv.bytes) c.in_ok-all.ensures.value).1

pub returns-clause-end : goal.returns-clause-end
returns-clause-end c =
    let all = c.in_ok-all.all in
    let bytes = c.args.bytes.now in
    (documents_only c.args.count bytes c.args.at all.value.items all.end
    (bytes_of bytes c.type_inv.bytes) c.in_ok-all.ensures.value).2

pub returns-clause-within : goal.returns-clause-within
returns-clause-within c le =
    let all = c.in_ok-all.all in
    let bytes = c.args.bytes.now in
    let only = documents_only c.args.count bytes c.args.at all.value.items all.end
    (bytes_of bytes c.type_inv.bytes) c.in_ok-all.ensures.value in
    stands_within (documents_bytes all.value.items) bytes c.args.at all.end only.1 only.2 le
