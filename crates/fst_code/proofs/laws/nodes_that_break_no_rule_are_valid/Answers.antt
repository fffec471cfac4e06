-- Rule by rule.
use Rattle.fst_code.proofs.ReadLemmas.{valid_nodes}
use Rattle.fst_code.proofs.laws.nodes_that_break_no_rule_are_valid.Goals as goal

pub returns : goal.returns
returns c = valid_nodes
