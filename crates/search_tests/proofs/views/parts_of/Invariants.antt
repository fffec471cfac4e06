-- The pieces so far can be built.
use Rattle.std.proofs.Common.{◌<◌, ◌^◌}
use Rattle.std.specs.List.{AllByRecursion}
use Rattle.segment.specs.Views.{IsBuildablePiece}
use Rattle.search_tests.proofs.views.parts_of.Given as goal

abbrev pub invariant-loop-batch : goal.invariant-loop-batch
invariant-loop-batch l = AllByRecursion IsBuildablePiece l.pieces.items × (l.upto < 2 ^ 21)
