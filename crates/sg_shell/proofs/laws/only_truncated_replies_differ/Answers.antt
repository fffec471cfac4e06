-- The law.
use Rattle.sg_shell.proofs.RunLemmas.{alike}
use Rattle.sg_shell.proofs.laws.only_truncated_replies_differ.Goals as goal

pub returns : goal.returns
returns c = alike
