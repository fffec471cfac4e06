-- What is out, continued by the rest, is the whole.
use Rattle.std.proofs.Common.{◌≡◌, ◌++◌, drop}
use Rattle.std.specs.List.{flat_map}
use Rattle.std.specs.Int.{to_be_bytes, w32}
use Rattle.segment.proofs.writing.put_places.Given as goal

abbrev pub invariant-loop-place : goal.invariant-loop-place
invariant-loop-place l =
    l.out.items ++ flat_map (to_be_bytes w32) (drop l.place-index l.places)
    ≡ l.fn.out.items ++ flat_map (to_be_bytes w32) l.places
