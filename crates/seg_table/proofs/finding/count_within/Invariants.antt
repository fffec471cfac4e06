-- What the halving keeps, and what it counts down.
use Rattle.std.proofs.Common.{◌≡◌, ◌≤◌, ◌<◌, ◌-◌, ℕ, true, false, length, get_or}
use Rattle.seg_table.specs.Ids.{id_of, is_within}
use Rattle.seg_table.proofs.finding.count_within.Given as goal

abbrev pub invariant-loop-low : goal.invariant-loop-low
invariant-loop-low l = record {
  order : l.low ≤ l.high;
  within : l.high ≤ length l.ids;
  below : (k : ℕ) → k < l.low → is_within l.reach l.wanted (id_of l.docs (get_or l.ids k 0)) ≡ true;
  from : (k : ℕ) → l.high ≤ k → k < length l.ids
      → is_within l.reach l.wanted (id_of l.docs (get_or l.ids k 0)) ≡ false;
}

abbrev pub decreases-loop-low : goal.decreases-loop-low
decreases-loop-low l = l.high - l.low
