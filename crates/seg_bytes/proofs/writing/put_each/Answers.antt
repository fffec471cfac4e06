-- Where one item finds no room, all of them find none.
use Rattle.std.specs.Vec.{vec_capacity}
use Rattle.seg_bytes.specs.DocumentBytes.{document_bytes}
use Rattle.seg_bytes.proofs.ListLemmas.{full_in, on_err}
use Rattle.seg_bytes.proofs.writing.put_each.Goals as goal

pub returns-in_err-put_document-clause-full : goal.returns-in_err-put_document-clause-full
returns-in_err-put_document-clause-full c =
    let l = c.loop-numbered in
    on_err c.from_residual.result
    (full_in document_bytes c.args.docs.now l.numbered-index c.numbered-item.result
    c.loop-numbered-test.true c.numbered-item.is c.args.out.now.items l.out.items
    l.invariant.0 (vec_capacity c.args.out.now) (vec_capacity l.out)
    l.invariant.1 c.in_err-put_document.ensures.full)
