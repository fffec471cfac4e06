-- The operations since split where the known ones end.
use Rattle.delete_queue.proofs.JournalLemmas.{deletes_since}
use Rattle.delete_queue.proofs.laws.deletes_since_complete_what_is_known.Goals as goal

pub returns : goal.returns
returns c = deletes_since
