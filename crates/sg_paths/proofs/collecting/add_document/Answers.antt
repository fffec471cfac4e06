-- What is kept of a document's entries are its paths.
use Rattle.std.proofs.Common.{◌≡◌, ◌++◌, List, map, ap, ◌∙◌}
use Rattle.sg_paths.specs.Documents.{PlainDocument, PlainSuggestion}
use Rattle.sg_paths.specs.Paths.{entries_from as plain_entries}
use Rattle.sg_paths.specs.AllPaths.{Entry, entry_of}
use Rattle.sg_paths.specs.Collected.{kept}
use Rattle.sg_paths.proofs.CollectLemmas.{kept-entries}
use Rattle.sg_paths.proofs.collecting.add_document.Goals as goal

pub returns : goal.returns
returns c =
    let suggestions : c.items.result.now ≡ c.args.document.now.suggestions =
    c.items.ensures ∙ ap (λ (d : PlainDocument). d.suggestions) c.document.view_is in
    let raw : c.as_slice.result.now
    ≡ map (entry_of c.args.doc) (plain_entries 0 c.args.document.now.suggestions) =
    c.as_slice.ensures.value ∙ c.in_ok-add_suggestions.ensures
    ∙ ap (λ (es : List Entry). es ++ map (entry_of c.args.doc) (plain_entries 0 c.items.result.now))
    c.clear.ensures.items
    ∙ ap (λ (ss : List PlainSuggestion). map (entry_of c.args.doc) (plain_entries 0 ss)) suggestions
    in
    c.in_ok-add_kept.ensures ∙ ap (λ (es : List Entry). c.args.into.now.items ++ kept es) raw
    ∙ ap (λ (es : List Entry). c.args.into.now.items ++ es)
    (kept-entries c.args.doc c.args.document.now)
