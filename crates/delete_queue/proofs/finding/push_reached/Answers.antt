-- The documents with the id, of which those that were added before are kept.
use Rattle.std.proofs.Common.{◌≡◌, ◌++◌, List, ℕ, OnOk, ap, ◌∙◌, subst}
use Rattle.std.specs.Prelude.{filter, bytes_eq}
use Rattle.seg_table.specs.Ids.{places_from}
use Rattle.delete_queue.specs.Deletes.{NumberedDelete}
use Rattle.delete_queue.specs.Reached.{is_before, places_of}
use Rattle.delete_queue.proofs.PlaceLemmas.{reached_places}
use Rattle.delete_queue.proofs.finding.push_reached.Goals as goal

pub returns : goal.returns
returns c =
    let docs = c.args.table.now in
    let seq = c.delete.inside.seq in
    let id = c.delete.inside.id.now in
    let own : NumberedDelete = record { seq = seq; id = id } in
    let found : filter (is_before seq docs) c.with_id.result ≡ places_of docs c.args.delete.now =
    ap (filter (is_before seq docs)) (c.with_id.ensures
    ∙ ap (λ (text : List ℕ). places_from 0 (λ d. bytes_eq d.document.id text) docs)
    c.as_str.ensures.text)
    ∙ reached_places own docs ∙ ap (places_of docs) c.delete.view_is in
    subst (λ (zs : List ℕ). OnOk c.push_all_before.result
    (c.push_all_before.new.dead.items ≡ c.args.dead.now.items ++ zs)) found
    c.push_all_before.ensures
