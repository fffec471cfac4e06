-- The rest decides.
use Rattle.std.proofs.Common.{◌≡◌, drop}
use Rattle.fst_code.specs.Rules.{is_free}
use Rattle.fst_code.specs.Views.{edges_of}
use Rattle.fst_code.proofs.arc_rules.has_free_arc.Given as goal

abbrev pub invariant-loop-i : goal.invariant-loop-i
invariant-loop-i l = is_free (drop l.i (edges_of l.node)) ≡ is_free (edges_of l.node)
