-- By the number of entries.
use Rattle.std.proofs.Common.{arith, ◌∙◌}
use Rattle.fst_code.proofs.FrameLemmas.{first_wrong, first_right}
use Rattle.fst_code.proofs.framing.wrong_entry.Goals as goal

pub returns-then-number_at-ne0 : goal.returns-then-number_at-ne0
returns-then-number_at-ne0 c =
    first_wrong c.args.bytes.now (omega
    (arith, c.number_at-count.ensures, c.if-count-eq0.false, c.if-count-eq1.false))
    (λ e. c.if-number_at-ne0.true (c.number_at.ensures ∙ e))

pub returns : goal.returns
returns c =
    first_right c.args.bytes.now c.number_at-count.result c.number_at-all.result
    c.wrong_later_entry.result c.number_at-count.ensures c.number_at-all.ensures
    (omega (arith, c.if-count-eq0.false, c.if-count-eq1.false))
    (omega (arith, c.number_at.ensures, c.if-number_at-ne0.false)) c.wrong_later_entry.ensures
