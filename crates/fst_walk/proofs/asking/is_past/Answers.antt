-- After all that begin with the bytes.
use Rattle.std.proofs.Common.{◌≡◌, sym, ap, ◌∙◌, true, false, not, ◌&&◌}
use Rattle.sg_base.specs.ByteStrings.{begins, is_less}
use Rattle.fst_walk.proofs.AskingLemmas.{past_less}
use Rattle.fst_walk.proofs.asking.is_past.Goals as goal

pub returns-then-begins : goal.returns-then-begins
returns-then-begins c =
    let at = c.args.at.now in
    let x = c.args.context.now in
    let e : begins at x ≡ true = sym c.begins.ensures ∙ c.if-begins.true in
    ap (λ b. not b && is_less at x) (sym e) ∙ past_less at x

pub returns : goal.returns
returns c =
    let at = c.args.at.now in
    let x = c.args.context.now in
    let e : begins at x ≡ false = sym c.begins.ensures ∙ c.if-begins.false in
    c.is_less.ensures ∙ ap (λ b. not b && is_less at x) (sym e) ∙ past_less at x
