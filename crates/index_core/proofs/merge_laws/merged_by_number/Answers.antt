-- The law.
use Rattle.index_core.proofs.ByNumberLemmas.{by_numbers}
use Rattle.index_core.proofs.merge_laws.merged_by_number.Goals as goal

pub returns : goal.returns
returns c = by_numbers
