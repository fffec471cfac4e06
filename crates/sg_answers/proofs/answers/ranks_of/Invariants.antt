-- So far the first rows have their ranks.
use Rattle.std.proofs.Common.{◌≡◌, take}
use Rattle.sg_answers.proofs.answers.ranks_of.Given as goal

abbrev pub invariant-loop-row : goal.invariant-loop-row
invariant-loop-row l = l.ranks.items ≡ take l.row-index l.rows
