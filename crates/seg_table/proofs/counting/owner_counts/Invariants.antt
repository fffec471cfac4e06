-- The owners so far are counted.
use Rattle.std.proofs.Common.{◌≡◌, take}
use Rattle.seg_table.specs.Counts.{counts_of}
use Rattle.seg_table.proofs.counting.owner_counts.Given as goal

abbrev pub invariant-loop-owner : goal.invariant-loop-owner
invariant-loop-owner l = l.counts.items ≡ counts_of l.documents (take l.owner-index l.owners)
