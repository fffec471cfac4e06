-- The report of a view is printed.
use Rattle.std.proofs.Common.{◌∙◌, ap, map}
use Rattle.sg_shell.specs.Working.{hit_row}
use Rattle.sg_shell.proofs.EngineLemmas.{reply_is}
use Rattle.sg_shell.proofs.viewing.answer_in.Goals as goal

pub returns-clause-reply : goal.returns-clause-reply
returns-clause-reply c =
    let report = c.in_ok-report.ensures in
    reply_is c.args.line _ c.args.query.now c.args.view.now c.in_ok-report.report.hits.items _ _
    c.upto.ensures
    (c.of.ensures.items ∙ (c.in_ok-rows.ensures
    ∙ ap (map (hit_row c.args.view.now.segments)) c.items.ensures))
    report.hits report.numbers report.report
