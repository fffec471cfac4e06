-- What is out, continued by the rest, is the whole.
use Rattle.std.proofs.Common.{◌≡◌, ◌++◌, drop, map}
use Rattle.seg_table.specs.Owners.{owner_of}
use Rattle.seg_table.proofs.owner.owners_of.Given as goal

abbrev pub invariant-loop-path : goal.invariant-loop-path
invariant-loop-path l = l.owners.items
    ++ map owner_of (drop l.path-index l.paths) ≡ map owner_of l.paths
