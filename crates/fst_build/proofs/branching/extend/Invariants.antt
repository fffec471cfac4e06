-- The levels so far, with those to come, are all.
use Rattle.std.proofs.Common.{◌≡◌, ◌≤◌, ◌+◌, ◌-◌, ◌++◌, drop, map, length, vec_len}
use Rattle.std.specs.Vec.{vec_capacity}
use Rattle.fst_build.specs.Levels.{fresh_level}
use Rattle.fst_build.proofs.branching.extend.Given as goal

abbrev pub invariant-loop-at : goal.invariant-loop-at
invariant-loop-at l = record {
  levels : l.levels.items ++ map fresh_level (drop l.at l.path)
      ≡ l.fn.levels.items ++ map fresh_level (drop l.from l.path);
  room : vec_len l.levels + (length l.path - l.at) ≤ vec_capacity l.levels;
}
