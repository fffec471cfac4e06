-- Those behind the known ones.
use Rattle.std.proofs.Common.{◌≡◌, ◌∙◌, List, ℕ, ap, map, drop, sym, subst}
use Rattle.std.specs.List.Sorted.{IsNonDecreasing}
use Rattle.index_core.specs.EndedMerges.{sources}
use Rattle.index_core.specs.Keeping.{least_applied, known_batches}
use Rattle.index_core.specs.Fields.{Stored}
use Rattle.index_core.specs.Slots.{PlainSlot, slot_piece}
use Rattle.index_core.proofs.ListLemmas.{map-drop}
use Rattle.index_core.proofs.MergeSlotLemmas.{never_fall}
use Rattle.index_core.proofs.store.Store.share_sources.Goals as goal

pub shared_sources-requires-clause-rising : goal.shared_sources-requires-clause-rising
shared_sources-requires-clause-rising c =
    subst IsNonDecreasing (sym c.as_slice-2.ensures.value)
    (never_fall c.args.gens.items c.requires.rising)

pieces_are : (c : goal.After-of-3)
    → c.as_slice-3.result.now
    ≡ sources c.args.gens.items
    (map (slot_piece (map (λ b. b.value) c.self.inside.batches.items)) c.self.inside.slots.items)
pieces_are c =
    c.as_slice-3.ensures.value ∙ c.in_ok-pieces.ensures
    ∙ ap (λ (gs : List ℕ). sources gs (map (slot_piece (map (λ b. b.value)
    c.as_slice-batches.result.now)) c.as_slice.result.now)) c.as_slice-2.ensures.value
    ∙ ap (λ bs. sources c.args.gens.items (map (slot_piece (map (λ b. b.value) bs))
    c.as_slice.result.now)) c.as_slice-batches.ensures.value
    ∙ ap (λ (ss : List PlainSlot). sources c.args.gens.items
    (map (slot_piece (map (λ b. b.value) c.self.inside.batches.items)) ss))
    c.as_slice.ensures.value

pub returns-clause-batches : goal.returns-clause-batches
returns-clause-batches c =
    let gens = c.args.gens.items in
    ap (map (λ b. b.value)) c.of-2.ensures.items
    ∙ c.in_ok-unknown.ensures
    ∙ ap (map (λ b. b.value)) c.behind.ensures
    ∙ map-drop (λ b. b.value) c.known_batches-known.result c.as_slice-batches.result.now
    ∙ ap (λ n. drop n (map (λ b. b.value) c.as_slice-batches.result.now))
    (c.known_batches-known.ensures.value
    ∙ ap (λ n. known_batches n (map (λ b. b.value) c.as_slice-batches.result.now))
    (c.least_applied-least.ensures
    ∙ ap (least_applied c.self.inside.frozen) (pieces_are c)))
    ∙ ap (λ bs. drop (known_batches (least_applied c.self.inside.frozen
    (sources gens (map (slot_piece (map (λ b. b.value) c.self.inside.batches.items))
    c.self.inside.slots.items))) (map (λ b. b.value) bs)) (map (λ b. b.value) bs))
    c.as_slice-batches.ensures.value
    ∙ ap (λ (s : Stored). drop (known_batches (least_applied c.self.inside.frozen
    (sources gens s.pieces)) s.batches) s.batches) c.self.view_is
