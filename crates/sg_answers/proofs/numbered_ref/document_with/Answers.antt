-- The one behind the documents with a lesser number is the only one that may have it.
use Rattle.std.proofs.Common.{◌∙◌, sym}
use Rattle.sg_answers.proofs.NumberLemmas.{find-at}
use Rattle.sg_answers.proofs.numbered_ref.document_with.Goals as goal

pub returns : goal.returns
returns c =
    c.document_at.ensures
    ∙ sym (find-at c.args.seq c.place_of.result c.args.documents.now c.requires.rising
    c.place_of.ensures)
