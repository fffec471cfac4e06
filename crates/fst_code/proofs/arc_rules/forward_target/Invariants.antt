-- What is left to look at decides.
use Rattle.fst_code.specs.Bytes.{first_form}
use Rattle.fst_code.specs.Rules.{targets_broken}
use Rattle.fst_code.proofs.SweepLemmas.{Sweep}
use Rattle.fst_code.proofs.arc_rules.forward_target.Given as goal

abbrev pub invariant-loop-id : goal.invariant-loop-id
invariant-loop-id l = Sweep (λ id at n. targets_broken first_form id at n) l.bytes l.id l.at
