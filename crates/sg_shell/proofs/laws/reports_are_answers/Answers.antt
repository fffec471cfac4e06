-- The law.
use Rattle.sg_shell.proofs.ReportLemmas.{answers}
use Rattle.sg_shell.proofs.laws.reports_are_answers.Goals as goal

pub returns : goal.returns
returns c = answers
