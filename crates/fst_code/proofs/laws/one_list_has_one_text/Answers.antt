-- Equal lists have equal nodes, and these one encoding.
use Rattle.fst_code.proofs.OneTextLemmas.{one_text}
use Rattle.fst_code.proofs.laws.one_list_has_one_text.Goals as goal

pub returns : goal.returns
returns c = one_text
