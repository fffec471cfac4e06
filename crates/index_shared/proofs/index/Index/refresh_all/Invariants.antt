-- What is left to be refreshed completes what was begun, and is ready.
use Rattle.std.proofs.Common.{map}
use Rattle.index_shared.proofs.OfferPieceLemmas.{Refreshing}
use Rattle.index_shared.proofs.index.Index.refresh_all.Given as goal

abbrev pub invariant-loop-piece : goal.invariant-loop-piece
invariant-loop-piece g l =
    Refreshing l.initial.handle l.handle l.upto l.count l.piece-index
    (map (λ b. b.value) l.batches) l.pieces
