-- The documents are read back, and what stands behind them is theirs.
use Rattle.segment.proofs.RoundLemmas.{written_is_accepted}
use Rattle.segment.proofs.laws.what_was_written_is_accepted.Goals as goal

pub returns : goal.returns
returns c = written_is_accepted c.what_was_written_is_read.ensures
