-- A suggestion, field by field.
use Rattle.seg_bytes.proofs.ReadingLemmas.{refusal}
use Rattle.seg_bytes.proofs.StepLemmas.{text_refused, key_refused, weight_refused}
use Rattle.seg_bytes.proofs.StepLemmas.{contexts_refused, context_refused, suggestion_is}
use Rattle.seg_bytes.proofs.reading.suggestion_at.Goals as goal

pub returns-in_err-text : goal.returns-in_err-text
returns-in_err-text c =
    refusal _ _ c.from_residual.result _ c.from_residual.ensures.1
    (text_refused c.args.bytes.now c.args.at _ c.in_err-text.ensures.value)

pub returns-in_err-key : goal.returns-in_err-key
returns-in_err-key c =
    let from = c.from_residual-in_err-key in
    let text = c.in_ok-text.text in
    refusal _ _ from.result _ from.ensures.1
    (key_refused c.args.bytes.now c.args.at text.value text.end c.in_ok-text.ensures.value _
    c.in_err-key.ensures.value)

pub returns-in_err-weight : goal.returns-in_err-weight
returns-in_err-weight c =
    let from = c.from_residual-in_err-weight in
    let text = c.in_ok-text.text in
    let key = c.in_ok-key.key in
    refusal _ _ from.result _ from.ensures.1
    (weight_refused c.args.bytes.now c.args.at text.value text.end c.in_ok-text.ensures.value
    key.value key.end c.in_ok-key.ensures.value _ c.in_err-weight.ensures.value)

pub returns-in_err-count : goal.returns-in_err-count
returns-in_err-count c =
    let from = c.from_residual-in_err-count in
    let text = c.in_ok-text.text in
    let key = c.in_ok-key.key in
    let weight = c.in_ok-weight.weight in
    refusal _ _ from.result _ from.ensures.1
    (contexts_refused c.args.bytes.now c.args.at text.value text.end c.in_ok-text.ensures.value
    key.value key.end c.in_ok-key.ensures.value weight.value weight.end
    c.in_ok-weight.ensures.value _ c.in_err-count.ensures.value)

pub returns-in_err-contexts : goal.returns-in_err-contexts
returns-in_err-contexts c =
    let from = c.from_residual-in_err-contexts in
    let text = c.in_ok-text.text in
    let key = c.in_ok-key.key in
    let weight = c.in_ok-weight.weight in
    let count = c.in_ok-count.count in
    refusal _ _ from.result _ from.ensures.1
    (context_refused c.args.bytes.now c.args.at text.value text.end c.in_ok-text.ensures.value
    key.value key.end c.in_ok-key.ensures.value weight.value weight.end
    c.in_ok-weight.ensures.value count.value count.end c.in_ok-count.ensures.value _
    c.in_err-contexts.ensures.value)

pub returns : goal.returns
returns c =
    let text = c.in_ok-text.text in
    let key = c.in_ok-key.key in
    let weight = c.in_ok-weight.weight in
    let count = c.in_ok-count.count in
    let contexts = c.in_ok-contexts.contexts in
    suggestion_is c.args.bytes.now c.args.at text.value text.end c.in_ok-text.ensures.value
    key.value key.end c.in_ok-key.ensures.value weight.value weight.end
    c.in_ok-weight.ensures.value count.value count.end c.in_ok-count.ensures.value
    contexts.value.items c.of.result.items contexts.end c.in_ok-contexts.ensures.value
    c.of.ensures.items
