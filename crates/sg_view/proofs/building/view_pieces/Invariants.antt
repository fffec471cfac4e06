-- The segments that are out, continued by those to come, are all segments.
use Rattle.std.proofs.Common.{◌≡◌, ◌++◌, drop, map}
use Rattle.std.specs.List.{AllByRecursion}
use Rattle.segment.specs.Views.{IsBuildablePiece}
use Rattle.sg_view.specs.Building.{piece_at}
use Rattle.sg_view.proofs.building.view_pieces.Given as goal

abbrev pub invariant-loop-piece : goal.invariant-loop-piece
invariant-loop-piece l =
    (l.segments.items
    ++ map (piece_at l.upto (map (λ b. b.value) l.batches)) (drop l.piece-index l.pieces)
    ≡ map (piece_at l.upto (map (λ b. b.value) l.batches)) l.pieces)
    × AllByRecursion IsBuildablePiece (drop l.piece-index l.pieces)
