-- Those behind the known ones.
use Rattle.std.proofs.Common.{◌≡◌, ◌∙◌, ap, map, drop}
use Rattle.index_core.specs.Keeping.{least_applied, known_batches}
use Rattle.index_core.specs.Fields.{Stored}
use Rattle.index_core.specs.Slots.{slot_piece}
use Rattle.index_core.proofs.ListLemmas.{map-drop}
use Rattle.index_core.proofs.store.Store.share_frozen.Goals as goal

pieces_are : (c : goal.After-of-2)
    → c.as_slice-2.result.now
    ≡ map (slot_piece (map (λ b. b.value) c.self.inside.batches.items)) c.self.inside.slots.items
pieces_are c =
    c.as_slice-2.ensures.value ∙ c.in_ok-pieces.ensures
    ∙ ap (λ bs. map (slot_piece (map (λ b. b.value) bs)) c.as_slice.result.now)
    c.as_slice-batches.ensures.value
    ∙ ap (map (slot_piece (map (λ b. b.value) c.self.inside.batches.items)))
    c.as_slice.ensures.value

pub returns-clause-batches : goal.returns-clause-batches
returns-clause-batches c =
    ap (map (λ b. b.value)) c.of-2.ensures.items
    ∙ c.in_ok-unknown.ensures
    ∙ ap (map (λ b. b.value)) c.behind.ensures
    ∙ map-drop (λ b. b.value) c.known_batches-known.result c.as_slice-batches.result.now
    ∙ ap (λ n. drop n (map (λ b. b.value) c.as_slice-batches.result.now))
    (c.known_batches-known.ensures.value
    ∙ ap (λ n. known_batches n (map (λ b. b.value) c.as_slice-batches.result.now))
    (c.least_applied-least.ensures
    ∙ ap (least_applied c.self.inside.frozen) (pieces_are c)))
    ∙ ap (λ bs. drop (known_batches (least_applied c.self.inside.frozen
    (map (slot_piece (map (λ b. b.value) c.self.inside.batches.items)) c.self.inside.slots.items))
    (map (λ b. b.value) bs)) (map (λ b. b.value) bs)) c.as_slice-batches.ensures.value
    ∙ ap (λ (s : Stored). drop (known_batches (least_applied c.self.inside.frozen s.pieces)
    s.batches) s.batches) c.self.view_is
