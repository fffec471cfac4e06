-- The id of the document at the place.
use Rattle.std.proofs.Common.{◌∙◌, [], sym}
use Rattle.std.proofs.lemmas.List.{get_or-map}
use Rattle.sg_paths.specs.Operations.{PlainNumbered}
use Rattle.seg_table.proofs.finding.id_at.Goals as goal

none : PlainNumbered
none = record { seq = 0; document = record { id = []; suggestions = [] } }

pub returns : goal.returns
returns c =
    c.id_bytes.ensures.value none
    ∙ sym (get_or-map (λ (d : PlainNumbered). d.document.id) c.args.docs.now c.args.place none []
    c.requires)
