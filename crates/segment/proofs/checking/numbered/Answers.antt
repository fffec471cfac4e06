-- The documents end in the bytes, so offsets fit.
use Rattle.std.proofs.Common.{List, length, Some, sym, ap, ◌∙◌}
use Rattle.std.proofs.Common.{arith}
use Rattle.sg_paths.specs.Operations.{PlainNumbered}
use Rattle.seg_bytes.specs.DocumentBytes.{documents_bytes}
use Rattle.seg_bytes.specs.Numbers.{wrong_number}
use Rattle.segment.proofs.ReadingLemmas.{five_is}
use Rattle.segment.proofs.checking.numbered.Goals as goal

pub misplaced_number-requires : goal.misplaced_number-requires
misplaced_number-requires c =
    let same = ap (λ (ds : List PlainNumbered). length (documents_bytes ds))
    c.as_slice.ensures.value in
    let stop = c.requires.stop in
    let within = c.requires.within in
    omega (arith, same, stop, within)

pub returns-in-None-clause-ok : goal.returns-in-None-clause-ok
returns-in-None-clause-ok c = record {
  found = c.requires;
  numbers =
      ap (λ (ds : List PlainNumbered). wrong_number 20 ds) (sym c.as_slice.ensures.value)
      ∙ sym c.in-None.ensures;
}

pub returns-in-Some-clause-err : goal.returns-in-Some-clause-err
returns-in-Some-clause-err c =
    five_is c.args.bytes.now c.args.read.docs.items c.args.read.end (Some c.in-Some.at) c.requires
    (ap (λ (ds : List PlainNumbered). wrong_number 20 ds) (sym c.as_slice.ensures.value)
    ∙ sym c.in-Some.ensures)
