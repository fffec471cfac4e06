-- What is left to look at decides.
use Rattle.std.proofs.Common.{◌≡◌, ◌+◌, ◌*◌, drop, length}
use Rattle.fst_code.specs.Bytes.{first_form, nodes_of}
use Rattle.fst_code.specs.Rules.{over, in_nodes, labels_broken}
use Rattle.fst_code.proofs.BytesLemmas.{sizes}
use Rattle.fst_code.proofs.arc_rules.unsorted_labels.Given as goal

abbrev pub invariant-loop-id : goal.invariant-loop-id
invariant-loop-id l = record {
  rest : over first_form (λ id at n. labels_broken first_form at n) l.id l.at
      (drop l.id (nodes_of l.bytes))
      ≡ in_nodes first_form (λ id at n. labels_broken first_form at n) (nodes_of l.bytes);
  room : l.at + 13 * sizes (drop l.id (nodes_of l.bytes)) ≡ length l.bytes;
}
