-- What is left to look at decides.
use Rattle.std.proofs.Common.{length}
use Rattle.fst_code.specs.Bytes.{nodes_of}
use Rattle.fst_code.specs.Rules.{free_broken}
use Rattle.fst_code.proofs.SweepLemmas.{Numbered}
use Rattle.fst_code.proofs.arc_rules.node_without_free_arc.Given as goal

abbrev pub invariant-loop-id : goal.invariant-loop-id
invariant-loop-id l = Numbered (λ id n. free_broken (length (nodes_of l.bytes)) id n) l.bytes l.id
