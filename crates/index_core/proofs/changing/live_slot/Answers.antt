-- The slot of the generation is changed at its place, where it passes.
use Rattle.std.proofs.Common.{◌∙◌, sym, ap, arith}
use Rattle.std.specs.List.{position_from}
use Rattle.index_core.specs.Slots.{lacks_deletes, slot_lived}
use Rattle.index_core.proofs.SlotLemmas.{is_of, position_within, slot_changed, slot_missing}
use Rattle.index_core.proofs.changing.live_slot.Goals as goal

pub index_mut-requires : goal.index_mut-requires
index_mut-requires c =
    let at = ap (position_from (is_of c.args.generation) 0) (sym c.as_slice.ensures.value)
    ∙ sym c.position_of.ensures ∙ c.in-Some.is in
    let within = position_within c.args.generation 0 c.in-Some.at c.args.slots.now.items at in
    omega (arith, within)

pub returns-in-Some-clause-answer : goal.returns-in-Some-clause-answer
returns-in-Some-clause-answer c =
    let at = ap (position_from (is_of c.args.generation) 0) (sym c.as_slice.ensures.value)
    ∙ sym c.position_of.ensures ∙ c.in-Some.is in
    c.put_live.ensures.answer
    ∙ (slot_changed c.args.generation c.in-Some.at (lacks_deletes c.args.applied) (slot_lived
    c.args.live.value c.args.applied)
    c.args.slots.now.items c.index_mut.result.now c.put_live.new.slot c.requires at
    c.index_mut.ensures.value c.put_live.ensures.slot).0

pub returns-in-Some-clause-slots : goal.returns-in-Some-clause-slots
returns-in-Some-clause-slots c =
    let at = ap (position_from (is_of c.args.generation) 0) (sym c.as_slice.ensures.value)
    ∙ sym c.position_of.ensures ∙ c.in-Some.is in
    (slot_changed c.args.generation c.in-Some.at (lacks_deletes c.args.applied) (slot_lived
    c.args.live.value c.args.applied)
    c.args.slots.now.items c.index_mut.result.now c.put_live.new.slot c.requires at
    c.index_mut.ensures.value c.put_live.ensures.slot).1

pub returns-in-None-clause-answer : goal.returns-in-None-clause-answer
returns-in-None-clause-answer c =
    (slot_missing c.args.generation (lacks_deletes c.args.applied) (slot_lived c.args.live.value
    c.args.applied)
    c.args.slots.now.items
    (ap (position_from (is_of c.args.generation) 0) (sym c.as_slice.ensures.value)
    ∙ sym c.position_of.ensures ∙ c.in-None.is)).0

pub returns-in-None-clause-slots : goal.returns-in-None-clause-slots
returns-in-None-clause-slots c =
    (slot_missing c.args.generation (lacks_deletes c.args.applied) (slot_lived c.args.live.value
    c.args.applied)
    c.args.slots.now.items
    (ap (position_from (is_of c.args.generation) 0) (sym c.as_slice.ensures.value)
    ∙ sym c.position_of.ensures ∙ c.in-None.is)).1
