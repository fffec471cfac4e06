-- The slots of the merge go, and what nothing holds any more is told.
use Rattle.std.proofs.Common.{◌≡◌, ◌≤◌, ◌<◌, ◌∙◌, ◌++◌, ◌∷◌, [], List, ℕ, None, refl, map}
use Rattle.std.proofs.Common.{sym, ap, subst, arith}
use Rattle.std.specs.List.Sorted.{IsNonDecreasing}
use Rattle.std.specs.Vec.{vec_capacity}
use Rattle.std.specs.Prelude.{vec_len}
use Rattle.index_holds.specs.Holders.{given_up}
use Rattle.index_core.specs.Histories.{event_of, merge_end}
use Rattle.index_core.specs.Fields.{Stored, retiring}
use Rattle.index_core.specs.Slots.{HaveBatches, without_slots}
use Rattle.index_core.proofs.StoreLemmas.{mapped_one}
use Rattle.index_core.proofs.MergeSlotLemmas.{closed_keeps, never_fall, have_removed, retired_store}
use Rattle.index_core.proofs.store.Store.retire.Goals as goal

pub remove_slots-requires : goal.remove_slots-requires
remove_slots-requires c =
    subst IsNonDecreasing (sym c.as_slice.ensures.value)
    (never_fall c.args.gens.items c.requires.rising)

slots_are : (c : goal.After-push_reserved)
    → c.remove_slots.new.slots.items ≡ without_slots c.args.gens.items c.self.inside.slots.items
slots_are c =
    c.remove_slots.ensures.slots
    ∙ ap (λ (gs : List ℕ). without_slots gs c.self.inside.slots.items) c.as_slice.ensures.value

pub invariant_of-self : goal.invariant_of-self
invariant_of-self c =
    let some : 0 < c.self.inside.merging =
    subst (λ (s : Stored). 0 < s.lists.merges_open) (sym c.self.view_is) c.requires.some in
    let less : vec_len c.remove_slots.new.slots ≤ vec_len c.self.inside.slots =
    c.remove_slots.ensures.len in
    let places : vec_capacity c.remove_slots.new.slots ≡ vec_capacity c.self.inside.slots =
    c.remove_slots.ensures.places in
    let spare : c.retire-freed.new.self.spare ≡ c.self.inside.holds.spare =
    c.retire-freed.ensures.spare in (
      closed_keeps _ _ _ _ _ _ _ _ _ _ _ _ _ (λ h. omega (arith, h, some, less, places))
          (λ h. omega (arith, h, some, less, places)) (λ h. omega (arith, h, some, spare))
          (λ h. omega (arith, h, some, spare)) c.self.invariant.0,
      subst (HaveBatches (map (λ b. b.value) c.self.inside.batches.items)) (sym (slots_are c))
          (have_removed (map (λ b. b.value) c.self.inside.batches.items) c.args.gens.items
          c.self.inside.slots.items c.self.invariant.1),
    )

pub returns-clause-store : goal.returns-clause-store
returns-clause-store c =
    let gens = c.args.gens.items in
    let held = c.self.inside.holds.entries in
    retired_store c.args.caller c.args.merge gens _ _ _ _ _ _ _ _ _ _ _ _ _ _ _ _ _ _ _ _ _ _ _ _
    (slots_are c) c.retire-freed.ensures.entries
    (mapped_one _ _ _ c.push_reserved.ensures.items
    ∙ ap (λ (gs : List ℕ). map event_of c.self.inside.events.items
    ++ merge_end c.args.caller c.args.merge None gs ∷ [])
    (c.told_in.ensures ∙ c.items.ensures ∙ c.retire-freed.ensures.freed
    ∙ ap (given_up held) c.retire-freed.ensures.entries))
    c.take_list-own.ensures.lists c.take_list-own.ensures.places refl
    c.push_reserved.ensures.capacity
    ∙ ap (retiring c.args.caller c.args.merge gens) c.self.view_is
