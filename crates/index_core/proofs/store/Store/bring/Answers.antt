-- The slots of the merge go and the new one comes; what nothing holds any more is told.
use Rattle.std.proofs.Common.{◌≡◌, ◌≤◌, ◌<◌, ◌+◌, ◌∙◌, ◌++◌, ◌∷◌, [], List, ℕ, Some, false}
use Rattle.std.proofs.Common.{refl}
use Rattle.std.proofs.Common.{length, map, sym, ap, subst, arith}
use Rattle.std.specs.List.Sorted.{IsNonDecreasing}
use Rattle.std.specs.Vec.{vec_capacity}
use Rattle.std.specs.Prelude.{vec_len}
use Rattle.index_holds.specs.Holders.{is_held, after_retire, given_up, with_current}
use Rattle.index_core.specs.Histories.{event_of, merge_end}
use Rattle.index_core.specs.Fields.{Stored}
use Rattle.index_core.specs.Slots.{PlainSlot, HaveBatches, without_slots}
use Rattle.index_core.specs.OwnLists.{list_of}
use Rattle.index_core.specs.Fields.{bringing}
use Rattle.index_core.specs.Slots.{brought_slot}
use Rattle.index_core.proofs.StoreLemmas.{mapped_one}
use Rattle.index_core.proofs.MergeSlotLemmas.{closed_keeps, never_fall, have_brought, brought_store}
use Rattle.index_core.proofs.store.Store.bring.Goals as goal

pub remove_slots-requires : goal.remove_slots-requires
remove_slots-requires c =
    subst IsNonDecreasing (sym c.as_slice.ensures.value)
    (never_fall c.args.gens.items c.requires.rising)

pub bring-requires-clause-new : goal.bring-requires-clause-new
bring-requires-clause-new c =
    rw c.retire-freed.ensures.entries
    (subst (λ (s : Stored). is_held (after_retire c.args.gens.items s.held) (s.drawn_count + 1)
    ≡ false) (sym c.self.view_is) c.requires.new)

pub told_in-requires : goal.told_in-requires
told_in-requires c =
    let gens = c.args.gens.items in
    let held = c.self.inside.holds.entries in
    let freed : c.items.result.now ≡ given_up held (after_retire gens held) =
    c.items.ensures ∙ c.retire-freed.ensures.freed
    ∙ ap (given_up held) c.retire-freed.ensures.entries in
    let own : c.take_list-own.result.items ≡ gens =
    c.take_list-own.ensures.list
    ∙ subst (λ (s : Stored). list_of c.args.merge s.lists.merges ≡ gens) (sym c.self.view_is)
    c.requires.own in
    rw (freed, own)
    (subst (λ (s : Stored). length (given_up s.held (after_retire gens s.held)) ≤ length gens)
    (sym c.self.view_is) c.requires.few_freed)

slots_are : (c : goal.After-push_reserved-2)
    → c.push_reserved.new.self.items
    ≡ without_slots c.args.gens.items c.self.inside.slots.items
    ++ brought_slot (c.self.inside.drawn + 1) c.args.upto c.args.segment.value ∷ []
slots_are c =
    let slot = brought_slot (c.self.inside.drawn + 1) c.args.upto c.args.segment.value in
    c.push_reserved.ensures.items
    ∙ ap (λ (ss : List PlainSlot). ss ++ slot ∷ [])
    (c.remove_slots.ensures.slots
    ∙ ap (λ (gs : List ℕ). without_slots gs c.self.inside.slots.items) c.as_slice.ensures.value)

pub invariant_of-self : goal.invariant_of-self
invariant_of-self c =
    let some : 0 < c.self.inside.merging =
    subst (λ (s : Stored). 0 < s.lists.merges_open) (sym c.self.view_is) c.requires.some in
    let len : vec_len c.push_reserved.new.self ≡ vec_len c.remove_slots.new.slots + 1 =
    c.push_reserved.ensures.len in
    let less : vec_len c.remove_slots.new.slots ≤ vec_len c.self.inside.slots =
    c.remove_slots.ensures.len in
    let places : vec_capacity c.push_reserved.new.self ≡ vec_capacity c.self.inside.slots =
    c.push_reserved.ensures.capacity ∙ c.remove_slots.ensures.places in
    let spare : c.bring.new.self.spare + 1 ≡ c.self.inside.holds.spare =
    c.bring.ensures.spare ∙ c.retire-freed.ensures.spare in (
      closed_keeps _ _ _ _ _ _ _ _ _ _ _ _ _
          (λ h. omega (arith, h, some, len, less, places))
          (λ h. omega (arith, h, some, len, less, places)) (λ h. omega (arith, h, some, spare))
          (λ h. omega (arith, h, some, spare)) c.self.invariant.0,
      subst (HaveBatches (map (λ b. b.value) c.self.inside.batches.items)) (sym (slots_are c))
          (have_brought (map (λ b. b.value) c.self.inside.batches.items) c.args.gens.items
          c.self.inside.slots.items (c.self.inside.drawn + 1) c.args.upto c.args.segment.value
          c.self.invariant.1),
    )

pub returns-clause-store : goal.returns-clause-store
returns-clause-store c =
    let gens = c.args.gens.items in
    let held = c.self.inside.holds.entries in
    let into : ℕ = c.self.inside.drawn + 1 in
    brought_store c.args.caller c.args.merge c.args.upto gens c.args.segment.value _ _ _ _ _ _ _ _
    _ _ _ _ _ _ _ _ _ _ _ _ _ _ _ _ (slots_are c)
    (c.bring.ensures.entries ∙ ap (with_current into) c.retire-freed.ensures.entries)
    (mapped_one _ _ _ c.push_reserved-2.ensures.items
    ∙ ap (λ (gs : List ℕ). map event_of c.self.inside.events.items
    ++ merge_end c.args.caller c.args.merge (Some into) gs ∷ [])
    (c.told_in.ensures ∙ c.items.ensures ∙ c.retire-freed.ensures.freed
    ∙ ap (given_up held) c.retire-freed.ensures.entries))
    c.take_list-own.ensures.lists c.take_list-own.ensures.places refl
    c.push_reserved-2.ensures.capacity
    ∙ ap (bringing c.args.caller c.args.merge c.args.upto gens c.args.segment.value)
    c.self.view_is

pub returns-clause-freed : goal.returns-clause-freed
returns-clause-freed c =
    let gens = c.args.gens.items in
    c.retire-freed.ensures.freed
    ∙ ap (given_up c.self.inside.holds.entries) c.retire-freed.ensures.entries
    ∙ ap (λ (s : Stored). given_up s.held (after_retire gens s.held)) c.self.view_is
