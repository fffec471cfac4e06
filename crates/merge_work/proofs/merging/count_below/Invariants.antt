-- All so far are below, so the count goes on with the rest.
use Rattle.std.proofs.Common.{◌≡◌, ◌+◌, drop}
use Rattle.merge_work.specs.Working.{count_below}
use Rattle.merge_work.proofs.merging.count_below.Given as goal

abbrev pub invariant-loop-i : goal.invariant-loop-i
invariant-loop-i l = l.i + count_below l.seq (drop l.i l.docs) ≡ count_below l.seq l.docs
