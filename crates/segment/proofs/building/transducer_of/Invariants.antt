-- The paths so far are added.
use Rattle.std.proofs.Common.{◌≡◌, take, map}
use Rattle.segment.specs.Represents.{path_tail}
use Rattle.segment.proofs.building.transducer_of.Given as goal

abbrev pub invariant-loop-path : goal.invariant-loop-path
invariant-loop-path l = l.builder ≡ map path_tail (take l.path-index l.paths)
