-- By computing.
use Rattle.fst_code.proofs.ExampleLemmas.{first_holds}
use Rattle.fst_code.proofs.laws.the_first_example_is_valid.Goals as goal

pub returns : goal.returns
returns c = first_holds
