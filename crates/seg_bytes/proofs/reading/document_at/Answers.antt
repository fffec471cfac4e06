-- A document, field by field.
use Rattle.seg_bytes.proofs.ReadingLemmas.{refusal}
use Rattle.seg_bytes.proofs.StepLemmas.{number_refused, id_refused, suggestions_refused}
use Rattle.seg_bytes.proofs.StepLemmas.{suggestion_refused, document_is}
use Rattle.seg_bytes.proofs.reading.document_at.Goals as goal

pub returns-in_err-seq : goal.returns-in_err-seq
returns-in_err-seq c =
    refusal _ _ c.from_residual.result _ c.from_residual.ensures.1
    (number_refused c.args.bytes.now c.args.at _ c.in_err-seq.ensures)

pub returns-in_err-id : goal.returns-in_err-id
returns-in_err-id c =
    let from = c.from_residual-in_err-id in
    let seq = c.in_ok-seq.seq in
    refusal _ _ from.result _ from.ensures.1
    (id_refused c.args.bytes.now c.args.at seq.value seq.end c.in_ok-seq.ensures _
    c.in_err-id.ensures.value)

pub returns-in_err-count : goal.returns-in_err-count
returns-in_err-count c =
    let from = c.from_residual-in_err-count in
    let seq = c.in_ok-seq.seq in
    let id = c.in_ok-id.id in
    refusal _ _ from.result _ from.ensures.1
    (suggestions_refused c.args.bytes.now c.args.at seq.value seq.end c.in_ok-seq.ensures
    id.value id.end c.in_ok-id.ensures.value _ c.in_err-count.ensures.value)

pub returns-in_err-suggestions : goal.returns-in_err-suggestions
returns-in_err-suggestions c =
    let from = c.from_residual-in_err-suggestions in
    let seq = c.in_ok-seq.seq in
    let id = c.in_ok-id.id in
    let count = c.in_ok-count.count in
    refusal _ _ from.result _ from.ensures.1
    (suggestion_refused c.args.bytes.now c.args.at seq.value seq.end c.in_ok-seq.ensures
    id.value id.end c.in_ok-id.ensures.value count.value count.end c.in_ok-count.ensures.value _
    c.in_err-suggestions.ensures.value)

pub returns : goal.returns
returns c =
    let seq = c.in_ok-seq.seq in
    let id = c.in_ok-id.id in
    let count = c.in_ok-count.count in
    let suggestions = c.in_ok-suggestions.suggestions in
    document_is c.args.bytes.now c.args.at seq.value seq.end c.in_ok-seq.ensures
    id.value id.end c.in_ok-id.ensures.value count.value count.end c.in_ok-count.ensures.value
    suggestions.value.items c.of.result.items suggestions.end c.in_ok-suggestions.ensures.value
    c.of.ensures.items
