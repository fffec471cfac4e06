-- The documents of a batch have rising numbers.
use Rattle.std.proofs.Common.{List, map, sym, subst}
use Rattle.sg_paths.specs.Operations.{PlainNumbered, plain_op}
use Rattle.segment.specs.Represents.{NumbersRise}
use Rattle.segment.proofs.NumberLemmas.{numbers_rise}
use Rattle.segment.proofs.segment.Segment.of_batch.Goals as goal

pub of_docs-requires-clause-rise : goal.of_docs-requires-clause-rise
of_docs-requires-clause-rise c =
    subst (λ (z : List PlainNumbered). NumbersRise z) (sym c.in_ok-docs.ensures.value)
    (numbers_rise c.batch.inside.from (map plain_op c.items.result.now))
