-- The sizes of the slots are those of the pieces.
use Rattle.std.proofs.Common.{◌≡◌, ◌∙◌, List, map, sym, ap, subst}
use Rattle.std.specs.Prelude.{IfOk, option_map}
use Rattle.std.specs.List.{filter_map, flat_map, AllByRecursion}
use Rattle.std.specs.List.Sorted.{IsStrictlyIncreasing}
use Rattle.merge_plan.specs.declared.size.Size.{Size}
use Rattle.merge_plan.specs.Merges.{plan}
use Rattle.index_core.specs.Histories.{is_among}
use Rattle.index_core.specs.HeldGenerations.{RisesFrom}
use Rattle.index_core.specs.PlannedMerges.{IsWithinSegment}
use Rattle.index_core.specs.Fields.{Stored, sizes_of}
use Rattle.index_core.specs.Slots.{PlainSlot, slot_size}
use Rattle.index_core.specs.OwnLists.{PlainOwnList}
use Rattle.index_core.proofs.HeldLemmas.{increasing}
use Rattle.index_core.proofs.SlotLemmas.{slots_rise}
use Rattle.index_core.proofs.SizeLemmas.{sizes_shared, sizes_rise}
use Rattle.index_core.proofs.MergeSlotLemmas.{on_ok}
use Rattle.index_core.proofs.store.Store.plan.Goals as goal

pub plan-requires : goal.plan-requires
plan-requires c =
    let sizes : c.as_slice-4.result.now
    ≡ filter_map (slot_size c.as_slice-3.result.now) c.self.inside.slots.items =
    c.as_slice-4.ensures.value ∙ c.in_ok-sizes.ensures.sizes
    ∙ ap (λ (ss : List PlainSlot). filter_map (slot_size c.as_slice-3.result.now) ss)
    c.as_slice-2.ensures.value in
    record {
      rising = subst (λ (zs : List Size). IsStrictlyIncreasing (map (λ z. z.generation) zs))
          (sym sizes)
          (increasing 1 (map (λ z. z.generation)
          (filter_map (slot_size c.as_slice-3.result.now) c.self.inside.slots.items))
          (sizes_rise c.as_slice-3.result.now 1 c.self.inside.slots.items
          (slots_rise (map (λ b. b.value) c.self.inside.batches.items) c.self.inside.slots.items
          (subst (λ (s : Stored). RisesFrom 1 (map (λ p. p.generation) s.pieces))
          (sym c.self.view_is) c.requires.rising))));
    }

pub returns-clause-plan : goal.returns-clause-plan
returns-clause-plan c =
    let merged = flat_map (λ l. l.generations) c.self.inside.merge_lists.items in
    let sizes : c.as_slice-4.result.now ≡ sizes_of c.args.self.now =
    c.as_slice-4.ensures.value ∙ c.in_ok-sizes.ensures.sizes
    ∙ ap (λ (ss : List PlainSlot). filter_map (slot_size c.as_slice-3.result.now) ss)
    c.as_slice-2.ensures.value
    ∙ sizes_shared (map (λ b. b.value) c.self.inside.batches.items) c.as_slice-3.result.now merged
    c.self.inside.slots.items
    (λ g. ap (is_among g) c.as_slice-3.ensures.value ∙ c.in_ok-merged.ensures.among g
    ∙ ap (λ (ls : List PlainOwnList). is_among g (flat_map (λ l. l.generations) ls))
    c.as_slice.ensures.value)
    ∙ ap sizes_of c.self.view_is in
    subst (λ (zs : List Size). IfOk c.plan.result
    (λ found. option_map (λ gens. gens.items) found ≡ plan zs)) sizes c.plan.ensures.plan

pub returns-clause-within : goal.returns-clause-within
returns-clause-within c =
    let merged = flat_map (λ l. l.generations) c.self.inside.merge_lists.items in
    let sizes : c.in_ok-sizes.sizes.items ≡ sizes_of c.args.self.now =
    c.in_ok-sizes.ensures.sizes
    ∙ ap (λ (ss : List PlainSlot). filter_map (slot_size c.as_slice-3.result.now) ss)
    c.as_slice-2.ensures.value
    ∙ sizes_shared (map (λ b. b.value) c.self.inside.batches.items) c.as_slice-3.result.now merged
    c.self.inside.slots.items
    (λ g. ap (is_among g) c.as_slice-3.ensures.value ∙ c.in_ok-merged.ensures.among g
    ∙ ap (λ (ls : List PlainOwnList). is_among g (flat_map (λ l. l.generations) ls))
    c.as_slice.ensures.value)
    ∙ ap sizes_of c.self.view_is in
    on_ok c.plan.result (AllByRecursion IsWithinSegment (sizes_of c.args.self.now))
    (subst (AllByRecursion IsWithinSegment) sizes c.in_ok-sizes.ensures.within)
