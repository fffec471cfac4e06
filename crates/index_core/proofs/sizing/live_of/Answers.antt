-- All documents are live where no live docs are said.
use Rattle.std.proofs.Common.{◌∙◌, sym}
use Rattle.index_core.proofs.SizeLemmas.{all_count}
use Rattle.index_core.proofs.sizing.live_of.Goals as goal

pub returns-in-None : goal.returns-in-None
returns-in-None c docs long = rw c.in-None.is (sym long ∙ sym (all_count docs))
