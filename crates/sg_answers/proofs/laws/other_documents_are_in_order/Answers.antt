-- Rows of other documents.
use Rattle.sg_answers.proofs.CollectorLemmas.{others_in_order}
use Rattle.sg_answers.proofs.laws.other_documents_are_in_order.Goals as goal

pub returns : goal.returns
returns c = others_in_order
