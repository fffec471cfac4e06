-- One document more.
use Rattle.std.proofs.Common.{true, arith}
use Rattle.merge_work.proofs.LiveLemmas.{kept_one_more}
use Rattle.merge_work.proofs.sources.kept_of.Goals as goal

pub loop-doc-preserved : goal.loop-doc-preserved
loop-doc-preserved c =
    kept_one_more c.args.table.now c.args.live.now c.loop-doc.doc c.loop-doc.kept.items
    c.push_if_live.new.kept.items c.of.result c.is_live.result
    (let within = c.loop-doc-test.true in let count = c.len-doc-end.ensures.value in
    omega (arith, within, count))
    c.requires c.of.ensures (c.is_live.ensures true) c.in_ok-push_if_live.ensures
    c.loop-doc.invariant
