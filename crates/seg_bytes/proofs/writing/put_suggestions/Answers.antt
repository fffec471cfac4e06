-- Where one item finds no room, all of them find none.
use Rattle.std.specs.Vec.{vec_capacity}
use Rattle.seg_bytes.specs.DocumentBytes.{suggestion_bytes}
use Rattle.seg_bytes.proofs.ListLemmas.{full_in, on_err}
use Rattle.seg_bytes.proofs.writing.put_suggestions.Goals as goal

pub returns-in_err-put_suggestion-clause-full : goal.returns-in_err-put_suggestion-clause-full
returns-in_err-put_suggestion-clause-full c =
    let l = c.loop-suggestion in
    on_err c.from_residual.result
    (full_in suggestion_bytes c.args.suggestions.now l.suggestion-index c.suggestion-item.result
    c.loop-suggestion-test.true c.suggestion-item.is c.args.out.now.items l.out.items
    l.invariant.0 (vec_capacity c.args.out.now) (vec_capacity l.out)
    l.invariant.1 c.in_err-put_suggestion.ensures.full)
