-- The entries so far, none over the most.
use Rattle.fst_code.specs.Tails.{dearest}
use Rattle.fst_code.proofs.GrowLemmas.{Tabled}
use Rattle.fst_code.proofs.path_rules.costly_node.Given as goal

abbrev pub invariant-loop-id : goal.invariant-loop-id
invariant-loop-id l = Tabled dearest 2147483647 l.bytes l.id l.known.items
