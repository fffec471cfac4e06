-- Where reading stops, the last take counts among what was taken.
use Rattle.std.proofs.Common.{◌++◌, take, arith, ◌∙◌}
use Rattle.std.proofs.lemmas.Result.{err_from_is_err_and}
use Rattle.sg_shell.proofs.MoveLemmas.{in_front-more, length-more}
use Rattle.sg_shell.proofs.reading.read_by.Goals as goal

pub returns-then-count-len : goal.returns-then-count-len
returns-then-count-len g c =
    let so_far = c.loop-input.invariant in
    let took = c.in_ok-count.ensures in
    let input = c.loop-input.input in
    let piece = c.take.new.into in
    let count = c.in_ok-count.count in
    let len = length-more input.items piece count took.within in record {
      taken = input.items ++ take count piece;
      moved = in_front-more _ _ _ input.items (take count piece) so_far.0 took.ok;
      over = omega (arith, len, input.ok.0);
      bound = omega (arith, len, input.ok.0);
      no_fault = took.cause ∙ so_far.1;
    }

pub returns-in_err-extend_from_slice : goal.returns-in_err-extend_from_slice
returns-in_err-extend_from_slice g c =
    let so_far = c.loop-input.invariant in
    let took = c.in_ok-count.ensures in
    let input = c.loop-input.input in
    let piece = c.take.new.into in
    let count = c.in_ok-count.count in
    let len = length-more input.items piece count took.within in
    let from = c.from_residual-in_err-extend_from_slice in
    let p = err_from_is_err_and from.result from.ensures.1 in
    rw (p.1, p.2) (record {
      taken = input.items ++ take count piece;
      moved = in_front-more _ _ _ input.items (take count piece) so_far.0 took.ok;
      bound = omega (arith, len, input.ok.0);
      no_fault = took.cause ∙ so_far.1;
    })
