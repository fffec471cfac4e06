-- What is out, continued by the rest, is the whole.
use Rattle.std.proofs.Common.{◌≡◌, ◌++◌, drop}
use Rattle.std.specs.List.{flat_map}
use Rattle.segment.specs.SegmentBytes.{owner_bytes}
use Rattle.segment.proofs.writing.put_owners.Given as goal

abbrev pub invariant-loop-owner : goal.invariant-loop-owner
invariant-loop-owner l =
    l.out.items ++ flat_map owner_bytes (drop l.owner-index l.owners)
    ≡ l.fn.out.items ++ flat_map owner_bytes l.owners
