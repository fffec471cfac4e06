-- The documents are those that their bytes are.
use Rattle.std.proofs.Common.{◌∙◌, ◌++◌, List, ℕ, ap}
use Rattle.seg_bytes.specs.DocumentBytes.{documents_bytes}
use Rattle.seg_bytes.proofs.PackedLemmas.{packed_of}
use Rattle.seg_bytes.proofs.packed.PackedDocuments.of.Goals as goal

pub invariant_of-result : goal.invariant_of-result
invariant_of-result c =
    (packed_of c.args.docs.now c.put_documents.new.out.items c.in_ok-starts.starts.items c.requires
    c.in_ok-starts.ensures.writable c.in_ok-starts.ensures.most
    (c.in_ok-put_documents.ensures.appended
    ∙ ap (λ (z : List ℕ). z ++ documents_bytes c.args.docs.now) c.new-bytes.ensures.items)
    c.in_ok-starts.ensures.value).1

pub returns : goal.returns
returns c =
    (packed_of c.args.docs.now c.put_documents.new.out.items c.in_ok-starts.starts.items c.requires
    c.in_ok-starts.ensures.writable c.in_ok-starts.ensures.most
    (c.in_ok-put_documents.ensures.appended
    ∙ ap (λ (z : List ℕ). z ++ documents_bytes c.args.docs.now) c.new-bytes.ensures.items)
    c.in_ok-starts.ensures.value).0
