-- Whatever stands for a missing document, the suggestion is there.
use Rattle.std.proofs.Common.{◌<◌, length, subst}
use Rattle.std.proofs.lemmas.List.{get_or_default}
use Rattle.sg_paths.specs.Operations.{PlainNumbered}
use Rattle.best_first.specs.Parts.{no_document}
use Rattle.sg_view.proofs.segment_parts.key_at.Goals as goal

pub key-requires-clause-suggestion : goal.key-requires-clause-suggestion
key-requires-clause-suggestion c = λ d.
    subst (λ (z : PlainNumbered). c.args.place < length z.document.suggestions)
    (get_or_default c.args.table.now c.args.doc no_document d c.requires.0) c.requires.1
