-- One slot more is kept, or none.
use Rattle.std.proofs.Common.{◌≡◌, ◌<◌, ◌∙◌, sym, ap, not, length, arith}
use Rattle.std.proofs.lemmas.List.Filters.{FiltersInPlace-more_swap, FiltersInPlace-more_no}
use Rattle.index_core.specs.Histories.{is_among}
use Rattle.index_core.specs.Slots.{PlainSlot}
use Rattle.index_core.proofs.changing.remove_slots.Goals as goal
use Rattle.index_core.proofs.changing.remove_slots.Goals.{then-not-is_among, else-not-is_among}

pub loop-at-preserved : goal.loop-at-preserved
loop-at-preserved c =
    let so_far = c.loop-at.invariant.0 in
    let within : c.loop-at.at < length c.loop-at.slots.items =
    omega (arith, c.loop-at-test.true, c.len-at-end.ensures, so_far.long) in
    let told : not (is_among c.index.result.now.generation c.args.gens.now)
    ≡ not c.is_among.result =
    ap (λ (s : PlainSlot). not (is_among s.generation c.args.gens.now)) (sym c.behind-slots.view_is)
    ∙ sym (ap not c.is_among.ensures) in
    elim c.if-not-is_among.branch [
      | then-not-is_among w ↦
          rw (w.slots-is, w.kept-is) (
            FiltersInPlace-more_swap so_far within (told ∙ ap not w.if-not-is_among.true)
                c.index.ensures w.swap.ensures.by_index,
            w.swap.ensures.capacity ∙ c.loop-at.invariant.1,
          )
      | else-not-is_among w ↦
          rw (w.slots-is, w.kept-is) (
            FiltersInPlace-more_no so_far within (told ∙ ap not w.if-not-is_among.false)
                c.index.ensures,
            c.loop-at.invariant.1,
          )
    ]
