-- The slot of the generation is changed, if there is one to change, and there is an event more.
use Rattle.std.proofs.Common.{◌≡◌, ◌∙◌, true, false, map, sym, ap, subst}
use Rattle.index_core.specs.HeldGenerations.{RisesFrom}
use Rattle.index_core.specs.Keeping.{has_unbuilt}
use Rattle.index_core.specs.Fields.{Stored}
use Rattle.index_core.specs.Slots.{lacks_segment, slot_built}
use Rattle.index_core.specs.Fields.{building}
use Rattle.index_core.proofs.StoreLemmas.{mapped_one}
use Rattle.index_core.proofs.SlotLemmas.{slots_rise, unbuilt_same}
use Rattle.index_core.proofs.NotingLemmas.{built_not, built_done, slots_stay}
use Rattle.index_core.proofs.NotingLemmas.{closed_stays}
use Rattle.index_core.proofs.store.Store.build.Goals as goal

pub build_slot-requires : goal.build_slot-requires
build_slot-requires c =
    slots_rise (map (λ b. b.value) c.self.inside.batches.items) c.self.inside.slots.items
    (subst (λ (s : Stored). RisesFrom 1 (map (λ p. p.generation) s.pieces)) (sym c.self.view_is)
    c.requires.rising)

pub returns-then-not-build_slot-clause-answer : goal.returns-then-not-build_slot-clause-answer
returns-then-not-build_slot-clause-answer c =
    sym (sym c.build_slot.ensures.answer ∙ c.if-not-build_slot.true)
    ∙ unbuilt_same (map (λ b. b.value) c.self.inside.batches.items) c.args.generation
    c.self.inside.slots.items
    ∙ ap (λ (s : Stored). has_unbuilt c.args.generation s.pieces) c.self.view_is

pub returns-then-not-build_slot-clause-store : goal.returns-then-not-build_slot-clause-store
returns-then-not-build_slot-clause-store c =
    built_not c.args.caller c.args.generation c.args.segment.value _ _ _ _ _ _ _ _ _ _ _ _ _
    (sym c.build_slot.ensures.answer ∙ c.if-not-build_slot.true) c.build_slot.ensures.slots
    ∙ ap (building c.args.caller c.args.generation c.args.segment.value) c.self.view_is

pub invariant_of-self-2 : goal.invariant_of-self-2
invariant_of-self-2 c =
    let stay = slots_stay (map (λ b. b.value) c.self.inside.batches.items) c.args.generation
    lacks_segment (slot_built c.args.segment.value)
    (λ s have none. absurd (let no : false ≡ true = none in cc))
    c.self.inside.slots.items c.build_slot.new.slots.items c.build_slot.ensures.slots
    c.self.invariant.1 in (
      closed_stays _ _ _ _ _ _ _ _ _ _ _ c.build_slot.ensures.len c.build_slot.ensures.places
          c.self.invariant.0,
      stay,
    )

pub returns-clause-answer : goal.returns-clause-answer
returns-clause-answer c =
    sym (sym c.build_slot.ensures.answer ∙ c.if-not-build_slot.false)
    ∙ unbuilt_same (map (λ b. b.value) c.self.inside.batches.items) c.args.generation
    c.self.inside.slots.items
    ∙ ap (λ (s : Stored). has_unbuilt c.args.generation s.pieces) c.self.view_is

pub returns-clause-store : goal.returns-clause-store
returns-clause-store c =
    built_done c.args.caller c.args.generation c.args.segment.value _ _ _ _ _ _ _ _ _ _ _ _ _ _ _
    (sym c.build_slot.ensures.answer ∙ c.if-not-build_slot.false) c.build_slot.ensures.slots
    (mapped_one _ _ _ c.push_reserved.ensures.items) c.push_reserved.ensures.capacity
    ∙ ap (building c.args.caller c.args.generation c.args.segment.value) c.self.view_is
