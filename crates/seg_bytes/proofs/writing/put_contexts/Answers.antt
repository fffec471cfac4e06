-- Where one item finds no room, all of them find none.
use Rattle.std.specs.Vec.{vec_capacity}
use Rattle.seg_bytes.specs.DocumentBytes.{short_bytes}
use Rattle.seg_bytes.proofs.ListLemmas.{full_in, on_err}
use Rattle.seg_bytes.proofs.writing.put_contexts.Goals as goal

pub returns-in_err-put_context-clause-full : goal.returns-in_err-put_context-clause-full
returns-in_err-put_context-clause-full c =
    let l = c.loop-context in
    on_err c.from_residual.result
    (full_in short_bytes c.args.contexts.now l.context-index c.context-item.result
    c.loop-context-test.true c.context-item.is c.args.out.now.items l.out.items
    l.invariant.0 (vec_capacity c.args.out.now) (vec_capacity l.out)
    l.invariant.1 c.in_err-put_context.ensures.full)
