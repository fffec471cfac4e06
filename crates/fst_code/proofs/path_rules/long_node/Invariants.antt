-- The entries so far, none over the most.
use Rattle.fst_code.specs.Tails.{longest}
use Rattle.fst_code.proofs.GrowLemmas.{Tabled}
use Rattle.fst_code.proofs.path_rules.long_node.Given as goal

abbrev pub invariant-loop-id : goal.invariant-loop-id
invariant-loop-id l = Tabled longest 324 l.bytes l.id l.known.items
