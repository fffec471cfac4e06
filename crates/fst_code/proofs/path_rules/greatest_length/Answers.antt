-- One arc further.
use Rattle.std.proofs.Common.{arith, ◌≡◌, ◌+◌, ◌∙◌, max, get_or, ap, ℕ}
use Rattle.sg_base.specs.declared.node.Edge.{Edge}
use Rattle.fst_code.specs.Views.{edges_of}
use Rattle.fst_code.proofs.GrowLemmas.{greatest_next}
use Rattle.fst_code.proofs.path_rules.greatest_length.Goals as goal

pub loop-i-preserved : goal.loop-i-preserved
loop-i-preserved c =
    let e = c.arc-edge.result in
    let n : c.greater-most.result ≡ max c.loop-i.most (1 + get_or c.args.known.now e.target.0 0) =
    c.greater-most.ensures ∙ ap (λ (k : ℕ). max c.loop-i.most (1 + k)) c.known_of.ensures in
    greatest_next (λ (x : Edge). 1 + get_or c.args.known.now x.target.0 0) c.loop-i.i c.loop-i.most
    c.greater-most.result (edges_of c.args.node) e _
    (omega (arith, c.count-count.ensures, c.loop-i-test.true)) (c.arc-edge.ensures e) n
    c.loop-i.invariant
