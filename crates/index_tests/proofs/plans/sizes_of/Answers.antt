-- One size more, with the next generation.
use Rattle.std.proofs.Common.{◌+◌, subst, sym, arith}
use Rattle.index_tests.proofs.RisingLemmas.{rise_more, RiseTo}
use Rattle.index_tests.proofs.plans.sizes_of.Goals as goal

pub loop-word-preserved : goal.loop-word-preserved
loop-word-preserved c = (
  subst (RiseTo (c.loop-word.last + 1)) (sym c.in_ok-push.ensures.items)
      (rise_more c.loop-word.last c.in_ok-size.size c.loop-word.sizes.items c.in_ok-size.ensures
      c.loop-word.invariant.0),
  omega (arith, c.loop-word.invariant.1, c.if-last-eq100.false),
)
