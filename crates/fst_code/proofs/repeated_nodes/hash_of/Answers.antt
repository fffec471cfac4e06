-- One arc further.
use Rattle.std.proofs.Common.{◌≡◌, ◌<◌, ◌∙◌, [], ap, sym, arith, drop, length}
use Rattle.std.proofs.Math.ListN.{drop_of_length-le}
use Rattle.sg_base.specs.Hashes.{hash_from}
use Rattle.fst_code.specs.Views.{edges_of}
use Rattle.fst_code.proofs.RepeatLemmas.{hash_next}
use Rattle.fst_code.proofs.repeated_nodes.hash_of.Goals as goal

pub loop-at-preserved : goal.loop-at-preserved
loop-at-preserved c =
    let es = edges_of c.args.node in
    let l : c.loop-at.at < length es = omega (arith, c.count-count.ensures, c.loop-at-test.true) in
    sym (hash_next c.loop-at.hash c.mix_arc-hash.result c.loop-at.at es c.arc-edge.result l
    (c.arc-edge.ensures c.arc-edge.result) c.mix_arc-hash.ensures) ∙ c.loop-at.invariant

pub returns : goal.returns
returns c =
    let d : drop c.loop-at.at (edges_of c.args.node) ≡ [] =
    drop_of_length-le (edges_of c.args.node)
    (omega (arith, c.count-count.ensures, c.loop-at-test.false)) in
    sym (ap (hash_from c.loop-at.hash) d) ∙ c.loop-at.invariant
