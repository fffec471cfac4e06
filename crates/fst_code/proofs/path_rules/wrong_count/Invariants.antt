-- The entries so far, and what is left to look at.
use Rattle.fst_code.proofs.CountLemmas.{Counting}
use Rattle.fst_code.proofs.path_rules.wrong_count.Given as goal

abbrev pub invariant-loop-id : goal.invariant-loop-id
invariant-loop-id l = Counting l.bytes l.id l.at l.known.items
