-- The law.
use Rattle.sg_shell.proofs.OpenMergeLemmas.{none_open}
use Rattle.sg_shell.proofs.laws.no_merge_stays_open.Goals as goal

pub returns : goal.returns
returns c = none_open
