-- So far those of the first pieces are out.
use Rattle.std.proofs.Common.{◌≡◌, take, map}
use Rattle.index_core.proofs.sharing.generations_of.Given as goal

abbrev pub invariant-loop-piece : goal.invariant-loop-piece
invariant-loop-piece l =
    l.generations.items ≡ map (λ p. p.generation) (take l.piece-index l.pieces)
