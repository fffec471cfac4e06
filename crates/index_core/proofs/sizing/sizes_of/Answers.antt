-- The size of one slot more, if it has one.
use Rattle.std.proofs.Common.{◌∙◌, ◌++◌, ◌∷◌, [], List, sym, ap}
use Rattle.std.specs.List.{filter_map}
use Rattle.merge_plan.specs.declared.size.Size.{Size}
use Rattle.index_core.specs.Slots.{slot_size}
use Rattle.index_core.proofs.LoopLemmas.{sizes_more}
use Rattle.index_core.proofs.sizing.sizes_of.Goals as goal

pub loop-slot-preserved : goal.loop-slot-preserved
loop-slot-preserved c =
    let l = c.loop-slot in
    let item = c.slot-item.result in (
      c.in_ok-push_size.ensures.sizes
          ∙ ap (λ (sizes : List Size).
          sizes ++ filter_map (slot_size c.args.merged.now) (item ∷ [])) l.invariant.0
          ∙ sym (sizes_more c.args.merged.now c.args.slots.now l.slot-index item
          c.loop-slot-test.true c.slot-item.is),
      c.in_ok-push_size.ensures.within l.invariant.1,
    )
