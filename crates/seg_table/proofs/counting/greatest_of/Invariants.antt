-- The greatest so far and of the rest is that of all.
use Rattle.std.proofs.Common.{◌≡◌, drop, max}
use Rattle.seg_table.specs.Owners.{greatest}
use Rattle.seg_table.proofs.counting.greatest_of.Given as goal

abbrev pub invariant-loop-count : goal.invariant-loop-count
invariant-loop-count l = max l.most (greatest (drop l.count-index l.counts)) ≡ greatest l.counts
