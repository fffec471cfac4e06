-- One generation more is kept, or none.
use Rattle.std.proofs.Common.{◌<◌, ◌∙◌, sym, ap, not, length, arith}
use Rattle.std.proofs.lemmas.List.Filters.{FiltersInPlace-more_set, FiltersInPlace-more_no}
use Rattle.index_holds.proofs.filtering.keep_unheld.Goals as goal
use Rattle.index_holds.proofs.filtering.keep_unheld.Goals.{then-not-is_held, else-not-is_held}

pub loop-at-preserved : goal.loop-at-preserved
loop-at-preserved c =
    let so_far = c.loop-at.invariant.0 in
    let within : c.loop-at.at < length c.loop-at.gens.items =
    omega (arith, c.loop-at-test.true, c.len-at-end.ensures, so_far.long) in
    elim c.if-not-is_held.branch [
      | then-not-is_held w ↦
          rw (w.gens-is, w.kept-is) (
            FiltersInPlace-more_set so_far within
                (sym (ap not c.is_held.ensures) ∙ ap not w.if-not-is_held.true)
                c.index-generation.ensures,
            c.loop-at.invariant.1,
          )
      | else-not-is_held w ↦
          rw (w.gens-is, w.kept-is) (
            FiltersInPlace-more_no so_far within
                (sym (ap not c.is_held.ensures) ∙ ap not w.if-not-is_held.false)
                c.index-generation.ensures,
            c.loop-at.invariant.1,
          )
    ]
