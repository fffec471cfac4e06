-- What is counted, with what the rest has, is the whole.
use Rattle.std.proofs.Common.{◌≡◌, ◌≤◌, ◌+◌, ◌*◌, drop, length}
use Rattle.sg_paths.specs.AllPaths.{path_entries}
use Rattle.segment.proofs.counting.count_paths.Given as goal

abbrev pub invariant-loop-i : goal.invariant-loop-i
invariant-loop-i l =
    (l.count ≤ 256 * l.i)
    × (l.count + length (path_entries 0 (drop l.i l.docs)) ≡ length (path_entries 0 l.docs))
