-- The slot of the generation is changed, if there is one to change, and there is an event more.
use Rattle.std.proofs.Common.{◌∙◌, map, sym, ap, subst}
use Rattle.index_core.specs.HeldGenerations.{RisesFrom}
use Rattle.index_core.specs.Keeping.{has_behind}
use Rattle.index_core.specs.Fields.{Stored}
use Rattle.index_core.specs.Slots.{lacks_deletes}
use Rattle.index_core.specs.Fields.{living}
use Rattle.index_core.specs.Slots.{slot_lived}
use Rattle.index_core.proofs.StoreLemmas.{mapped_one}
use Rattle.index_core.proofs.SlotLemmas.{slots_rise, behind_same}
use Rattle.index_core.proofs.NotingLemmas.{lived_not, lived_done, slots_stay}
use Rattle.index_core.proofs.NotingLemmas.{closed_stays}
use Rattle.index_core.proofs.store.Store.live.Goals as goal

pub live_slot-requires : goal.live_slot-requires
live_slot-requires c =
    slots_rise (map (λ b. b.value) c.self.inside.batches.items) c.self.inside.slots.items
    (subst (λ (s : Stored). RisesFrom 1 (map (λ p. p.generation) s.pieces)) (sym c.self.view_is)
    c.requires.rising)

pub returns-then-not-live_slot-clause-answer : goal.returns-then-not-live_slot-clause-answer
returns-then-not-live_slot-clause-answer c =
    sym (sym c.live_slot.ensures.answer ∙ c.if-not-live_slot.true)
    ∙ behind_same (map (λ b. b.value) c.self.inside.batches.items) c.args.generation c.args.applied
    c.self.inside.slots.items
    ∙ ap (λ (s : Stored). has_behind c.args.generation c.args.applied s.pieces) c.self.view_is

pub returns-then-not-live_slot-clause-store : goal.returns-then-not-live_slot-clause-store
returns-then-not-live_slot-clause-store c =
    lived_not c.args.caller c.args.generation c.args.applied c.args.live.value _ _ _ _ _ _ _ _ _ _
    _ _ _
    (sym c.live_slot.ensures.answer ∙ c.if-not-live_slot.true) c.live_slot.ensures.slots
    ∙ ap (living c.args.caller c.args.generation c.args.live.value c.args.applied) c.self.view_is

pub invariant_of-self-2 : goal.invariant_of-self-2
invariant_of-self-2 c =
    let stay = slots_stay (map (λ b. b.value) c.self.inside.batches.items) c.args.generation
    (lacks_deletes c.args.applied) (slot_lived c.args.live.value c.args.applied) (λ s have. have)
    c.self.inside.slots.items c.live_slot.new.slots.items c.live_slot.ensures.slots
    c.self.invariant.1 in (
      closed_stays _ _ _ _ _ _ _ _ _ _ _ c.live_slot.ensures.len c.live_slot.ensures.places
          c.self.invariant.0,
      stay,
    )

pub returns-clause-answer : goal.returns-clause-answer
returns-clause-answer c =
    sym (sym c.live_slot.ensures.answer ∙ c.if-not-live_slot.false)
    ∙ behind_same (map (λ b. b.value) c.self.inside.batches.items) c.args.generation c.args.applied
    c.self.inside.slots.items
    ∙ ap (λ (s : Stored). has_behind c.args.generation c.args.applied s.pieces) c.self.view_is

pub returns-clause-store : goal.returns-clause-store
returns-clause-store c =
    lived_done c.args.caller c.args.generation c.args.applied c.args.live.value _ _ _ _ _ _ _ _ _
    _ _ _ _ _ _
    (sym c.live_slot.ensures.answer ∙ c.if-not-live_slot.false) c.live_slot.ensures.slots
    (mapped_one _ _ _ c.push_reserved.ensures.items) c.push_reserved.ensures.capacity
    ∙ ap (living c.args.caller c.args.generation c.args.live.value c.args.applied) c.self.view_is
