-- The law.
use Rattle.sg_shell.proofs.RunSessionLemmas.{names_kept}
use Rattle.sg_shell.proofs.laws.names_are_kept.Goals as goal

pub returns : goal.returns
returns c = names_kept
