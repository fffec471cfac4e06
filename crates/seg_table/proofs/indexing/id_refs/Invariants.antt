-- What is out, continued by the rest, is the whole.
use Rattle.std.proofs.Common.{◌≡◌, ◌++◌, drop}
use Rattle.seg_table.specs.Ids.{placed_from}
use Rattle.seg_table.proofs.indexing.id_refs.Given as goal

abbrev pub invariant-loop-place : goal.invariant-loop-place
invariant-loop-place l = l.refs.items
    ++ placed_from l.place (drop l.place l.docs) ≡ placed_from 0 l.docs
