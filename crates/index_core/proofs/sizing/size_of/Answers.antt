-- The table tells how many documents and paths there are.
use Rattle.std.proofs.Common.{◌≡◌, ◌∙◌, List, sym, ap, length}
use Rattle.std.specs.Prelude.{option_map}
use Rattle.std.proofs.lemmas.List.{length-map}
use Rattle.sg_paths.specs.AllPaths.{all_paths}
use Rattle.sg_paths.specs.Operations.{PlainNumbered}
use Rattle.index_core.proofs.SizeLemmas.{sized_is}
use Rattle.index_core.proofs.sizing.size_of.Goals as goal

pub returns-clause-size : goal.returns-clause-size
returns-clause-size c =
    let docs = c.args.segment.now.value in
    let documents : c.table-table.result.now ≡ docs =
    c.table-table.ensures.documents ∙ c.deref.ensures in
    let long = c.len-documents.ensures.value
    ∙ ap (λ (ds : List PlainNumbered). length ds) documents in
    sized_is c.args.merged.now c.args.generation docs (option_map (λ l. l.value) c.args.live.now)
    _ _ _ _ long
    (c.live_of.ensures docs (sym long))
    (ap (λ os. length os) c.owners.ensures ∙ length-map (all_paths c.table-table.result.now) _
    ∙ ap (λ (ds : List PlainNumbered). length (all_paths ds)) documents)
    c.is_among.ensures
