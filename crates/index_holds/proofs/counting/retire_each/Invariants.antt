-- The first are changed, and the rest are as they were.
use Rattle.std.proofs.Common.{◌≡◌, ◌++◌, take, drop, map}
use Rattle.index_holds.specs.Entries.{HaveHolders}
use Rattle.index_holds.specs.Holders.{without_current}
use Rattle.index_holds.proofs.counting.retire_each.Given as goal

abbrev pub invariant-loop-entry : goal.invariant-loop-entry
invariant-loop-entry l =
    (take l.entry-index l.entry-items
    ++ map (without_current l.gens) (drop l.entry-index l.entry-items)
    ≡ map (without_current l.gens) l.initial.entry-items)
    × HaveHolders l.gens (drop l.entry-index l.entry-items)
