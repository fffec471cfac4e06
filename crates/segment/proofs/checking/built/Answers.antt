-- Rule 6, and what a segment is made of.
use Rattle.std.proofs.Common.{List, length, sym, ap, ◌∙◌}
use Rattle.std.specs.Prelude.{nat_lt}
use Rattle.sg_paths.specs.Operations.{PlainNumbered}
use Rattle.sg_paths.specs.AllPaths.{path_entries}
use Rattle.segment.proofs.ReadingLemmas.{numbers_of, six_exceeds}
use Rattle.segment.proofs.checking.built.Goals as goal

pub returns-then-exceeds-clause-err : goal.returns-then-exceeds-clause-err
returns-then-exceeds-clause-err c =
    six_exceeds c.args.bytes.now c.args.docs.items c.args.end c.requires
    (ap (λ (ds : List PlainNumbered). nat_lt 4194304 (length (path_entries 0 ds)))
    (sym c.as_slice.ensures.value) ∙ sym c.in-Ok.ensures ∙ c.if-exceeds.true)

pub of_paths-requires-clause-rise : goal.of_paths-requires-clause-rise
of_paths-requires-clause-rise c = numbers_of 20 c.args.docs.items c.requires.numbers
