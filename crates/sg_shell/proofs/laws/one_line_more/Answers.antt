-- The law.
use Rattle.sg_shell.proofs.RunLemmas.{one_more}
use Rattle.sg_shell.proofs.laws.one_line_more.Goals as goal

pub returns : goal.returns
returns c = one_more
