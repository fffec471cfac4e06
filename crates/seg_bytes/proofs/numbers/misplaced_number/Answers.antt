-- One more number, one that is wrong, and the last.
use Rattle.std.proofs.Common.{◌+◌, ◌&&◌, drop, sym, ap, ◌∙◌}
use Rattle.std.proofs.Common.{arith}
use Rattle.std.specs.Prelude.{nat_lt, nat_le}
use Rattle.seg_bytes.specs.declared.limits.TheConstants.{MOST_SEQ}
use Rattle.seg_bytes.specs.DocumentBytes.{document_bytes}
use Rattle.seg_bytes.specs.Numbers.{wrong_number_after}
use Rattle.seg_bytes.proofs.ListLemmas.{length_more}
use Rattle.seg_bytes.proofs.NumberLemmas.{one_rises, one_wrong, none_wrong}
use Rattle.seg_bytes.proofs.numbers.misplaced_number.Goals as goal

pub returns-then-not-may_follow : goal.returns-then-not-may_follow
returns-then-not-may_follow c =
    let seq = ap (λ v. v.seq) c.numbered.view_is in
    sym (sym c.loop-numbered.invariant.0
    ∙ one_wrong c.args.docs.now c.loop-numbered.numbered-index c.numbered-item.result
    c.loop-numbered.last c.loop-numbered.start c.loop-numbered-test.true c.numbered-item.is
    (ap (λ n. nat_lt c.loop-numbered.last n && nat_le n MOST_SEQ) (sym seq)
    ∙ sym c.if-not-may_follow.ensures))

pub loop-numbered-preserved : goal.loop-numbered-preserved
loop-numbered-preserved c =
    let seq = ap (λ v. v.seq) c.numbered.view_is in
    let rest = drop (c.loop-numbered.numbered-index + 1) c.args.docs.now in
    let value = c.document_len-start.ensures.value in
    let more = length_more document_bytes c.args.docs.now c.loop-numbered.numbered-index
    c.numbered-item.result c.loop-numbered-test.true c.numbered-item.is in
    let start = c.loop-numbered.start in
    let so_far = c.loop-numbered.invariant.1 in (
      ap (λ n. wrong_number_after n (start + c.document_len-start.result) rest) seq
          ∙ ap (λ n. wrong_number_after c.numbered-item.result.seq (start + n) rest) value
          ∙ sym (one_rises c.args.docs.now c.loop-numbered.numbered-index c.numbered-item.result
          c.loop-numbered.last c.loop-numbered.start c.loop-numbered-test.true c.numbered-item.is
          (ap (λ n. nat_lt c.loop-numbered.last n && nat_le n MOST_SEQ) (sym seq)
          ∙ sym c.if-not-may_follow.ensures))
          ∙ c.loop-numbered.invariant.0,
      omega (arith, value, more, so_far),
    )

pub returns : goal.returns
returns c =
    sym (none_wrong c.args.docs.now c.loop-numbered.numbered-index c.loop-numbered.last
    c.loop-numbered.start (omega (arith, c.loop-numbered-test.false)))
    ∙ c.loop-numbered.invariant.0
