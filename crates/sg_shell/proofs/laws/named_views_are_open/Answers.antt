-- The law.
use Rattle.sg_shell.proofs.HoldingLemmas.{named_open}
use Rattle.sg_shell.proofs.laws.named_views_are_open.Goals as goal

pub returns : goal.returns
returns c = named_open
