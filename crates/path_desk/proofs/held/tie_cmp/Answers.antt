-- Within a start all bytes decide, and between starts the rest doesn't matter.
use Rattle.std.proofs.Common.{◌∙◌, sym}
use Rattle.path_desk.proofs.OrderLemmas.{tie_cmp-same_start}
use Rattle.path_desk.proofs.held.tie_cmp.Goals as goal

pub returns-then-a_start-b_start : goal.returns-then-a_start-b_start
returns-then-a_start-b_start c =
    c.cmp.ensures ∙ sym (tie_cmp-same_start c.args.a.now c.args.a_start c.args.b.now c.args.b_start
    c.if-a_start-b_start.true)
