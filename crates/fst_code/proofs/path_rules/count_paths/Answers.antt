-- One arc further.
use Rattle.std.proofs.Common.{arith}
use Rattle.fst_code.specs.Views.{edges_of}
use Rattle.fst_code.proofs.CountLemmas.{counts_found, counts_passed, sum_passed}
use Rattle.fst_code.proofs.path_rules.count_paths.Goals as goal

pub loop-i-preserved : goal.loop-i-preserved
loop-i-preserved c =
    let e = c.arc-edge.result in
    record {
      rest = counts_passed c.args.known.now c.loop-i.sofar c.args.at c.loop-i.i c.known_of.result
          (edges_of c.args.node) e _ (omega (arith, c.count-count.ensures, c.loop-i-test.true))
          (c.arc-edge.ensures e) c.loop-i.invariant.rest c.if-edge-sofar.false c.known_of.ensures;
      sum = sum_passed c.args.known.now c.loop-i.sofar c.loop-i.i c.known_of.result _
          (edges_of c.args.node) e (omega (arith, c.count-count.ensures, c.loop-i-test.true))
          (c.arc-edge.ensures e) c.loop-i.invariant.sum c.if-edge-sofar.false c.known_of.ensures;
    }

pub returns-then-edge-sofar-clause-err : goal.returns-then-edge-sofar-clause-err
returns-then-edge-sofar-clause-err c =
    let e = c.arc-edge.result in
    counts_found c.args.known.now c.loop-i.sofar c.args.at c.loop-i.i (edges_of c.args.node) e _
    (omega (arith, c.count-count.ensures, c.loop-i-test.true)) (c.arc-edge.ensures e)
    c.loop-i.invariant.rest c.if-edge-sofar.true
