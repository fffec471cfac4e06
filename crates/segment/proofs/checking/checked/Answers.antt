-- What is built of the documents is compared with the bytes.
use Rattle.std.proofs.Common.{List, Some, ap, ◌∙◌}
use Rattle.sg_paths.specs.Operations.{PlainNumbered}
use Rattle.seg_bytes.specs.Fields.{reads}
use Rattle.segment.specs.Rules.{rule_7}
use Rattle.segment.proofs.ReadingLemmas.{finds}
use Rattle.segment.proofs.checking.checked.Goals as goal

pub returns-in-Ok-Some-clause-err : goal.returns-in-Ok-Some-clause-err
returns-in-Ok-Some-clause-err c =
    let wrong = rw c.in-Ok-Some.field-0-is at c.in-Ok-Some.ensures in
    finds c.args.bytes.now c.in_ok-docs.field-0.docs.items c.in_ok-segment.segment c.text.result.now
    c.in_ok-docs.field-0.end (Some c.in-Ok-Some.at) c.in_ok-segment.ensures.ok c.text.ensures
    (wrong ∙ ap (λ (ds : List PlainNumbered).
    rule_7 (reads ds c.in_ok-docs.field-0.end) c.text.result.now c.args.bytes.now)
    c.table.ensures.documents)
