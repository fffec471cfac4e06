-- The documents that are out, continued by those that are left, are all.
use Rattle.std.proofs.Common.{◌≡◌, length}
use Rattle.seg_bytes.specs.DocumentsRead.{document_at}
use Rattle.seg_bytes.proofs.ManyLemmas.{Continues}
use Rattle.seg_bytes.proofs.documents.all_at.Given as goal

abbrev pub invariant-loop : goal.invariant-loop
invariant-loop l =
    Continues document_at l.bytes l.at l.count l.docs.items l.end l.counter
    × (length l.docs.items ≡ l.counter)
