-- The greatest so far and of the rest.
use Rattle.std.proofs.Common.{◌≡◌, drop, max}
use Rattle.fst_code.specs.Tails.{longest}
use Rattle.fst_code.specs.Views.{edges_of}
use Rattle.fst_code.proofs.path_rules.greatest_length.Given as goal

abbrev pub invariant-loop-i : goal.invariant-loop-i
invariant-loop-i l = max l.most (longest l.known (drop l.i (edges_of l.node)))
    ≡ longest l.known (edges_of l.node)
