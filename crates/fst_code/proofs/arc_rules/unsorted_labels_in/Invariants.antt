-- What is left to look at decides.
use Rattle.std.proofs.Common.{◌≡◌, ◌+◌, ◌*◌, ◌-◌, ◌/◌, length}
use Rattle.fst_code.specs.Bytes.{first_form, arcs_at}
use Rattle.fst_code.specs.Rules.{labels_broken}
use Rattle.fst_code.proofs.arc_rules.unsorted_labels_in.Given as goal

abbrev pub invariant-loop-i : goal.invariant-loop-i
invariant-loop-i l = labels_broken first_form (l.at + 13 * (l.i - 1))
    (arcs_at first_form (length l.arcs / 13 - (l.i - 1)) (13 * (l.i - 1)) l.arcs)
    ≡ labels_broken first_form l.at (arcs_at first_form (length l.arcs / 13) 0 l.arcs)
