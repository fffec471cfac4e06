-- Each context is within its limits, as all are.
use Rattle.std.proofs.Common.{arith}
use Rattle.std.proofs.lemmas.Grind.{common_steps}
use Rattle.wire_json.specs.Suggested.{is_reserved_context, is_context_text}
use Rattle.wire_json.proofs.MemberLemmas.{all_at, none_at}
use Rattle.wire_json.proofs.SuggestedLemmas.{texts_more}
use Rattle.wire_json.proofs.building.contexts_of.Goals as goal

pub context-requires-clause-fits : goal.context-requires-clause-fits
context-requires-clause-fits c =
    all_at is_context_text c.args.given.now c.loop-value.value-index c.value-item.result
    c.loop-value-test.true c.value-item.is c.requires.fit

pub context-requires-clause-not_reserved : goal.context-requires-clause-not_reserved
context-requires-clause-not_reserved c =
    none_at is_reserved_context c.args.given.now c.loop-value.value-index c.value-item.result
    c.loop-value-test.true c.value-item.is c.requires.not_reserved

pub loop-value-preserved : goal.loop-value-preserved
loop-value-preserved c =
    let more = texts_more c.args.given.now c.loop-value.value-index c.value-item.result
    c.in_ok-context.field-0 c.loop-value-test.true c.value-item.is c.in_ok-context.ensures in
    grind (arith, common_steps, more)
