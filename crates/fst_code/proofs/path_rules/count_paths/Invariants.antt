-- The paths so far, with those to come, are all.
use Rattle.std.proofs.Common.{◌≡◌, ◌+◌, ◌*◌, drop, get_or}
use Rattle.std.specs.List.{sum_by}
use Rattle.sg_base.specs.declared.node.Edge.{Edge}
use Rattle.fst_code.specs.Bytes.{first_form}
use Rattle.fst_code.specs.Rules.{counts_broken}
use Rattle.fst_code.specs.Views.{edges_of}
use Rattle.fst_code.proofs.path_rules.count_paths.Given as goal

abbrev pub invariant-loop-i : goal.invariant-loop-i
invariant-loop-i l = record {
  rest : counts_broken first_form l.known l.sofar (l.at + 13 * l.i) (drop l.i (edges_of l.node))
      ≡ counts_broken first_form l.known 0 l.at (edges_of l.node);
  sum : l.sofar + sum_by (λ (x : Edge). get_or l.known x.target.0 0) (drop l.i (edges_of l.node))
      ≡ sum_by (λ (x : Edge). get_or l.known x.target.0 0) (edges_of l.node);
}
