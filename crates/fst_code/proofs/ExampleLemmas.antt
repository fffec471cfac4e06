-- The examples of the format, by computing.
use Rattle.std.proofs.Common.{refl}
use Rattle.fst_code.specs.Examples.{FirstExample, SecondExample}
use Rattle.fst_code.specs.Rules.{postorder}
use Rattle.fst_code.specs.Tails.{tails}

pub first_holds : FirstExample
unfolding postorder tails
first_holds = (refl, refl)

pub second_holds : SecondExample
unfolding postorder tails
second_holds = refl
