-- One entry more is kept, or none.
use Rattle.std.proofs.Common.{◌<◌, ◌∙◌, sym, length, arith}
use Rattle.std.proofs.lemmas.List.Filters.{FiltersInPlace-more_set, FiltersInPlace-more_no}
use Rattle.index_holds.proofs.filtering.keep_used.Goals as goal
use Rattle.index_holds.proofs.filtering.keep_used.Goals.{then-is_used, else-is_used}

pub loop-at-preserved : goal.loop-at-preserved
loop-at-preserved c =
    let so_far = c.loop-at.invariant.0 in
    let within : c.loop-at.at < length c.loop-at.entries.items =
    omega (arith, c.loop-at-test.true, c.len-at-end.ensures, so_far.long) in
    elim c.if-is_used.branch [
      | then-is_used w ↦
          rw (w.entries-is, w.kept-is) (
            FiltersInPlace-more_set so_far within (sym c.is_used.ensures ∙ w.if-is_used.true)
                c.index-entry.ensures,
            c.loop-at.invariant.1,
          )
      | else-is_used w ↦
          rw (w.entries-is, w.kept-is) (
            FiltersInPlace-more_no so_far within (sym c.is_used.ensures ∙ w.if-is_used.false)
                c.index-entry.ensures,
            c.loop-at.invariant.1,
          )
    ]
