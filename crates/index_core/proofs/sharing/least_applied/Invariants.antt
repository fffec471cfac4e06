-- The least of the rest, from here on, is the least of all.
use Rattle.std.proofs.Common.{◌≡◌, drop}
use Rattle.index_core.specs.Keeping.{least_applied}
use Rattle.index_core.proofs.sharing.least_applied.Given as goal

abbrev pub invariant-loop-piece : goal.invariant-loop-piece
invariant-loop-piece l =
    least_applied l.least (drop l.piece-index l.pieces) ≡ least_applied l.most l.pieces
