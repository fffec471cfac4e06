-- The first of all entries is the first of the paths.
use Rattle.std.proofs.Common.{◌≡◌, ◌∙◌, refl}
use Rattle.sg_answers.proofs.EntryLemmas.{first_entry-row}
use Rattle.sg_answers.proofs.answers.row_of_document.Goals as goal

pub returns : goal.returns
returns c =
    let d = c.args.document.now in
    let suggestions : c.items.result.now ≡ d.document.suggestions =
    rw (← c.document.view_is) (rw (← c.found.view_is) c.items.ensures) in
    let seq : c.document.inside.seq ≡ d.seq = rw (← c.document.view_is) refl in
    c.first_candidate.ensures
    ∙ rw (suggestions, seq) (first_entry-row c.args.query.now d c.requires.boosts)
