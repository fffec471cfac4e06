-- The law of the numbers.
use Rattle.sg_paths.proofs.NumberLemmas.{numbers_count}
use Rattle.sg_paths.proofs.path_laws.numbers_count_the_entries_before.Goals as goal

pub returns : goal.returns
returns c = numbers_count
