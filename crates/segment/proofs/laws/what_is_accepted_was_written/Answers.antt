-- The header is that of its counts, the documents stand as they are written, and the rest is
-- theirs.
use Rattle.segment.proofs.OnlyLemmas.{accepted_is_written}
use Rattle.segment.proofs.laws.what_is_accepted_was_written.Goals as goal

pub returns : goal.returns
returns c = accepted_is_written c.what_is_read_was_written.ensures
