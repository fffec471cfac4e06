-- The first are changed, and the rest are as they were.
use Rattle.std.proofs.Common.{◌≡◌, ◌++◌, take, drop, map}
use Rattle.index_holds.specs.Entries.{HaveRoom}
use Rattle.index_holds.specs.Holders.{with_holder}
use Rattle.index_holds.proofs.counting.hold_each.Given as goal

abbrev pub invariant-loop-entry : goal.invariant-loop-entry
invariant-loop-entry l =
    (take l.entry-index l.entry-items
    ++ map (with_holder l.gens) (drop l.entry-index l.entry-items)
    ≡ map (with_holder l.gens) l.initial.entry-items)
    × HaveRoom l.gens (drop l.entry-index l.entry-items)
