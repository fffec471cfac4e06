-- By how far the walk is.
use Rattle.std.proofs.Common.{sym, ap, ◌∙◌}
use Rattle.fst_walk.specs.Asked.{Position, is_left_at}
use Rattle.fst_walk.specs.Walks.{bytes_of}
use Rattle.fst_walk.specs.declared.walk.Stage.TheVariants.{At, Within, Past}
use Rattle.fst_walk.proofs.PositionLemmas.{left-less}
use Rattle.fst_walk.proofs.AskingLemmas.{stands_at}
use Rattle.fst_walk.proofs.asking.is_left.Goals as goal

pub returns-in-At : goal.returns-in-At
returns-in-At c =
    let w = c.args.walk.now in
    let x = c.args.context.now in
    c.is_less.ensures ∙ sym (left-less (bytes_of w) x)
    ∙ ap (λ (p : Position). is_left_at p x) (sym (stands_at w At c.in-At.is))

pub returns-in-Within : goal.returns-in-Within
returns-in-Within c =
    let w = c.args.walk.now in
    let x = c.args.context.now in
    c.is_less-in-Within.ensures ∙ sym (left-less (bytes_of w) x)
    ∙ ap (λ (p : Position). is_left_at p x) (sym (stands_at w Within c.in-Within.is))

pub returns-in-Past : goal.returns-in-Past
returns-in-Past c = c.is_past.ensures
    ∙ ap (λ (p : Position). is_left_at p c.args.context.now)
    (sym (stands_at c.args.walk.now Past c.in-Past.is))
