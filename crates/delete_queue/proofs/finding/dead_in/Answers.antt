-- All places that the deletes reach, in order and each once.
use Rattle.std.proofs.Common.{◌≡◌, ◌<◌, ℕ, List, map, length, ◌∙◌, sym, ap, subst}
use Rattle.std.specs.Prelude.{eqb}
use Rattle.std.specs.List.{All}
use Rattle.std.specs.List.Sorted.{IsPermutation}
use Rattle.std.proofs.lemmas.List.Filters.{dedup_is}
use Rattle.seg_table.specs.Ids.{places_from}
use Rattle.delete_queue.specs.Deletes.{NumberedDelete, is_dead_in}
use Rattle.delete_queue.specs.DeleteOrder.{latest}
use Rattle.delete_queue.specs.Reached.{places_reached}
use Rattle.delete_queue.proofs.PlaceLemmas.{dead_places, places_within}
use Rattle.delete_queue.proofs.finding.dead_in.Goals as goal

pub returns : goal.returns
returns c =
    let docs = c.args.table.now in
    let batches = map (λ b. b.value) c.args.batches.now in
    let dead = is_dead_in c.args.applied c.args.upto batches in
    let sorted = c.sort_unstable.new.self.items in
    let places : c.dedup.new.self.items ≡ places_from 0 dead docs =
    dedup_is eqb _ _ c.dedup.ensures.filtered
    ∙ dead_places c.args.applied c.args.upto batches docs
    sorted c.in_ok-dead.dead.items c.sort_unstable-2.new.self.items
    (subst (λ (es : List NumberedDelete). IsPermutation es sorted) c.in_ok-deletes.ensures
    c.sort_unstable.ensures.permutation)
    (c.in_ok-dead.ensures
    ∙ ap (λ (es : List NumberedDelete). places_reached docs (latest es)) c.as_slice.ensures.value)
    c.sort_unstable-2.ensures.permutation c.sort_unstable-2.ensures.sorted in
    record {
      value = places;
      within = subst (λ (ps : List ℕ). All (λ place. place < length docs) ps) (sym places)
          (places_within dead docs);
    }
