-- What is out, continued by the rest, is the whole.
use Rattle.std.proofs.Common.{◌≡◌, ◌++◌, drop, map}
use Rattle.seg_table.proofs.indexing.places.Given as goal

abbrev pub invariant-loop-id : goal.invariant-loop-id
invariant-loop-id l = l.places.items
    ++ map (λ p. p.place) (drop l.id-index l.refs) ≡ map (λ p. p.place) l.refs
