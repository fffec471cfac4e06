-- What went doesn't precede.
use Rattle.std.proofs.Common.{◌≡◌}
use Rattle.std.specs.Prelude.{vec_len, All}
use Rattle.std.specs.Vec.{vec_capacity}
use Rattle.sg_base.proofs.RankingLemmas.{Ascending}
use Rattle.collector.specs.Hits.{row_of, rows_of}
use Rattle.collector.specs.Tops.{preceding}
use Rattle.collector.proofs.closing.keep_preceding.Given as goal

abbrev pub invariant-loop-hits : goal.invariant-loop-hits
invariant-loop-hits g l = record {
  known : All (g.K.Keys.known l.keys) l.hits.items;
  ascending : Ascending (rows_of (g.K.Keys.key_of l.keys) l.hits.items);
  items : preceding l.cut (row_of (g.K.Keys.key_of l.keys)) l.hits.items
      ≡ preceding l.cut (row_of (g.K.Keys.key_of l.keys)) l.initial.hits.items;
  places : vec_capacity l.hits ≡ vec_capacity l.initial.hits;
}

abbrev pub decreases-loop-hits : goal.decreases-loop-hits
decreases-loop-hits g l = vec_len l.hits
