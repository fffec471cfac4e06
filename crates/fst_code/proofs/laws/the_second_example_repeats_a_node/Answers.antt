-- By computing.
use Rattle.fst_code.proofs.ExampleLemmas.{second_holds}
use Rattle.fst_code.proofs.laws.the_second_example_repeats_a_node.Goals as goal

pub returns : goal.returns
returns c = second_holds
