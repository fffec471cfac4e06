-- One more, one that is refused, and the last.
use Rattle.std.proofs.Common.{◌+◌, sym, subst, arith}
use Rattle.std.proofs.lemmas.Grind.{common_steps}
use Rattle.seg_bytes.specs.DocumentsRead.{suggestion_at}
use Rattle.seg_bytes.proofs.ReadingLemmas.{refusal}
use Rattle.seg_bytes.proofs.ManyLemmas.{Continues, one_more, one_refused, all_read}
use Rattle.seg_bytes.proofs.reading.suggestions_at.Goals as goal

pub returns-in_err-suggestion-clause-value : goal.returns-in_err-suggestion-clause-value
returns-in_err-suggestion-clause-value c =
    let bytes = c.args.bytes.now in
    let out = c.loop.suggestions.items in
    refusal _ _ c.from_residual.result _ c.from_residual.ensures.1
    (one_refused suggestion_at bytes c.args.at c.args.count out c.loop.end c.loop.counter _
    c.loop-test.true c.in_err-suggestion.ensures c.loop.invariant.0)

pub loop-preserved : goal.loop-preserved
loop-preserved c =
    let bytes = c.args.bytes.now in
    let item = c.in_ok-suggestion.suggestion in
    let more = one_more suggestion_at bytes c.args.at c.args.count c.loop.suggestions.items
    c.loop.end c.loop.counter item.value item.end c.loop-test.true c.in_ok-suggestion.ensures
    c.loop.invariant.0 in (
      subst (λ items. Continues suggestion_at bytes c.args.at c.args.count
          items item.end (c.loop.counter + 1)) (sym c.in_ok-push.ensures) more,
      grind (arith, common_steps),
    )

pub returns-clause-value : goal.returns-clause-value
returns-clause-value c =
    all_read suggestion_at c.args.bytes.now c.args.at c.args.count c.loop.suggestions.items
    c.loop.end c.loop.counter (omega (arith, c.loop-test.false)) c.loop.invariant.0
