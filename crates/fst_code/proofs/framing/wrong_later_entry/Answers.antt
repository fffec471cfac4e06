-- One entry further.
use Rattle.fst_code.proofs.FrameLemmas.{ends_found, ends_passed}
use Rattle.fst_code.proofs.framing.wrong_later_entry.Goals as goal

pub returns-then-not-is_next : goal.returns-then-not-is_next
returns-then-not-is_next c =
    ends_found c.loop-id.id c.args.count c.args.all c.loop-id.from c.number_at-end.result
    c.is_next.result c.args.bytes.now _ c.loop-id-test.true c.number_at-end.ensures
    c.is_next.ensures c.if-not-is_next.true c.loop-id.invariant

pub loop-id-preserved : goal.loop-id-preserved
loop-id-preserved c =
    ends_passed c.loop-id.id c.args.count c.args.all c.loop-id.from c.number_at-end.result
    c.is_next.result c.args.bytes.now _ c.loop-id-test.true c.number_at-end.ensures
    c.is_next.ensures c.if-not-is_next.false c.loop-id.invariant
