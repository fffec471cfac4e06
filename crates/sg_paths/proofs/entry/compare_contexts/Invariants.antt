-- What is left compares as the whole.
use Rattle.std.proofs.Common.{◌≡◌, ◌≤◌, ◌-◌, ◌++◌, ◌∷◌, [], length, drop}
use Rattle.std.specs.Cmp.Lexicographic.{slice_cmp}
use Rattle.std.specs.Ordering.{nat_cmp}
use Rattle.sg_paths.proofs.entry.compare_contexts.Given as goal

abbrev pub invariant-loop-i : goal.invariant-loop-i
invariant-loop-i l = record {
  first : l.i ≤ length l.first;
  second : l.i ≤ length l.second;
  same : slice_cmp nat_cmp (drop l.i l.first ++ 29 ∷ []) (drop l.i l.second ++ 29 ∷ [])
      ≡ slice_cmp nat_cmp (l.first ++ 29 ∷ []) (l.second ++ 29 ∷ []);
}

abbrev pub decreases-loop-i : goal.decreases-loop-i
decreases-loop-i l = length l.first - l.i
