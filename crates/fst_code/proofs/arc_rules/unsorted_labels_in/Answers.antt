-- One pair of arcs further.
use Rattle.std.proofs.Common.{◌/◌, length}
use Rattle.fst_code.specs.Bytes.{first_form, arcs_at}
use Rattle.fst_code.specs.Rules.{labels_broken}
use Rattle.fst_code.proofs.PassLemmas.{labels_found, labels_passed}
use Rattle.fst_code.proofs.arc_rules.unsorted_labels_in.Goals as goal

pub returns-then-arcs-i : goal.returns-then-arcs-i
returns-then-arcs-i c =
    labels_found c.loop-i.i c.args.at (length c.args.arcs.now / 13) c.args.arcs.now
    (labels_broken first_form c.args.at
    (arcs_at first_form (length c.args.arcs.now / 13) 0 c.args.arcs.now)) c.loop-i.auto.i
    c.loop-i-test.true c.loop-i.invariant c.if-arcs-i.true

pub loop-i-preserved : goal.loop-i-preserved
loop-i-preserved c =
    labels_passed c.loop-i.i c.args.at (length c.args.arcs.now / 13) c.args.arcs.now
    (labels_broken first_form c.args.at
    (arcs_at first_form (length c.args.arcs.now / 13) 0 c.args.arcs.now)) c.loop-i.auto.i
    c.loop-i-test.true c.loop-i.invariant c.if-arcs-i.false
