-- What is left to look at decides.
use Rattle.std.proofs.Common.{◌≡◌, ◌+◌, ◌*◌, drop}
use Rattle.fst_code.specs.Bytes.{first_form}
use Rattle.fst_code.specs.Rules.{targets_broken}
use Rattle.fst_code.specs.Views.{edges_of}
use Rattle.fst_code.proofs.arc_rules.forward_target_in.Given as goal

abbrev pub invariant-loop-i : goal.invariant-loop-i
invariant-loop-i l = targets_broken first_form l.id (l.at + 13 * l.i) (drop l.i (edges_of l.node))
    ≡ targets_broken first_form l.id l.at (edges_of l.node)
