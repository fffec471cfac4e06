-- The law.
use Rattle.sg_shell.proofs.ReportLemmas.{meets_report}
use Rattle.sg_shell.proofs.laws.views_meet_their_reports.Goals as goal

pub returns : goal.returns
returns c = meets_report
