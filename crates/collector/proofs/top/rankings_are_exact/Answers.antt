-- The law of rankings.
use Rattle.sg_base.proofs.RankingLemmas.{ranking_unique}
use Rattle.sg_base.specs.Rows.{ranked}
use Rattle.collector.proofs.KeptLemmas.{put_row-take}
use Rattle.collector.proofs.RankingLemmas.{is_ranking-ranked}
use Rattle.collector.proofs.top.rankings_are_exact.Goals as goal

pub returns : goal.returns
returns c = record {
  ranking = is_ranking-ranked;
  only = λ rows all is.
      ranking_unique rows (ranked all) all all is (is_ranking-ranked all) (λ r i. i) (λ r i. i);
  first = λ k r all. put_row-take k r (ranked all) (is_ranking-ranked all).once;
}
