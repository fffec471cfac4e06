-- The report of a view whose segments were searched.
use Rattle.std.proofs.Common.{◌≡◌, ℕ, Bool, true, false, cond, List, [], ◌∷◌, map, length, take}
use Rattle.std.proofs.Common.{refl, sym, ap, ◌∙◌, subst}
use Rattle.std.specs.Prelude.{Option, Some, None, filter, nat_le, All}
use Rattle.std.specs.List.{flat_map}
use Rattle.sg_base.specs.Cuts.{PlainCut, precedes}
use Rattle.sg_base.specs.Ranking.{rank_cmp, in_order, IsRanking}
use Rattle.sg_base.specs.Rows.{ranked}
use Rattle.sg_base.specs.declared.hit.Hit.{Hit}
use Rattle.sg_base.specs.declared.rank.Rank.{Rank}
use Rattle.sg_base.proofs.InOrderLemmas.{in-in_order}
use Rattle.sg_base.proofs.Orders.{at_most_itself}
use Rattle.sg_base.proofs.RankingLemmas.{rank_lt, ranks_ordered, Once, ranking_unique}
use Rattle.sg_context.specs.Queries.{PlainQuery}
use Rattle.sg_answers.specs.Reports.{ViewedSegment, live_in, IsReport}
use Rattle.sg_answers.specs.Closing.{Searched, first_cut, kept_rows, closed_rows, closed_cut}
use Rattle.sg_answers.proofs.ClosingLemmas.{closes_soundly}
use Rattle.collector.specs.Tops.{closed, preceding, report}
use Rattle.collector.proofs.ListLemmas.{map-length}
use Rattle.collector.proofs.RankingLemmas.{is_ranking-ranked}
use Rattle.best_first.proofs.AnswerLemmas.{AreDistinct, once_in_order, rising}
use Rattle.best_first.proofs.OrderedLemmas.{in_order-has}
use Rattle.best_first.proofs.SizingLemmas.{closed-all}
use Rattle.sg_view.specs.Searched.{HaveSearched}
use Rattle.sg_view.proofs.DistinctLemmas.{once_all}

-- rows of different documents are ranked by their order
is_ranking-in_order : (rows : List Rank) → Once rows → IsRanking (in_order rank_cmp rows) rows
is_ranking-in_order rows once =
    let ordered = once_in_order rows once in record {
      ascending = rising rows ordered;
      once = ordered;
      from = λ r i. in-in_order rank_cmp r rows i;
      best = λ s i.
          (s, in_order-has rank_cmp s rows i, refl, at_most_itself rank_lt ranks_ordered s);
    }

-- what the collector leaves of hits is what is left of their rows
module _ (row : Hit → Rank) where
  rows_at : (b : Bool) (cut : PlainCut) (h : Hit) (hits : List Hit)
      → map row (preceding cut row hits) ≡ filter (precedes cut) (map row hits)
      → map row (cond b (h ∷ preceding cut row hits) (preceding cut row hits))
      ≡ cond b (row h ∷ filter (precedes cut) (map row hits)) (filter (precedes cut) (map row hits))
  rows_at true cut h hits e = ap (λ (rs : List Rank). row h ∷ rs) e
  rows_at false cut h hits e = e

  rows-preceding : (cut : PlainCut) (hits : List Hit)
      → map row (preceding cut row hits) ≡ filter (precedes cut) (map row hits)
  rows-preceding cut [] = refl
  rows-preceding cut (h ∷ hits) =
      rows_at (precedes cut (row h)) cut h hits (rows-preceding cut hits)

  as_many : (cut : PlainCut) (hits : List Hit)
      → length (preceding cut row hits) ≡ length (filter (precedes cut) (map row hits))
  as_many cut hits =
      sym (map-length row (preceding cut row hits)) ∙ ap length (rows-preceding cut hits)

  hits_at : (b : Bool) (cut : PlainCut) (hits some : List Hit)
      → map row (cond b (report hits None) (report some (Some cut))).hits
      ≡ cond b (map row hits) (map row some)
  hits_at true cut hits some = refl
  hits_at false cut hits some = refl

  cut_at : (b : Bool) (cut : PlainCut) (hits some : List Hit)
      → (cond b (report hits None) (report some (Some cut))).cut ≡ cond b None (Some cut)
  cut_at true cut hits some = refl
  cut_at false cut hits some = refl

  rows-closed : (k : ℕ) (hits : List Hit) (cut : Option PlainCut)
      → map row (closed k row hits cut).hits ≡ closed_rows k (map row hits) cut
  rows-closed k hits None = refl
  rows-closed k hits (Some cut) =
      hits_at (nat_le k (length (preceding cut row hits))) cut hits (preceding cut row hits)
      ∙ ap (λ n. cond (nat_le k n) (map row hits) (map row (preceding cut row hits)))
      (as_many cut hits)
      ∙ ap (λ (rs : List Rank). cond (nat_le k (length (filter (precedes cut) (map row hits))))
      (map row hits) rs) (rows-preceding cut hits)

  cut-closed : (k : ℕ) (hits : List Hit) (cut : Option PlainCut)
      → (closed k row hits cut).cut ≡ closed_cut k (map row hits) cut
  cut-closed k hits None = refl
  cut-closed k hits (Some cut) =
      cut_at (nat_le k (length (preceding cut row hits))) cut hits (preceding cut row hits)
      ∙ ap (λ n. cond (nat_le k n) None (Some cut)) (as_many cut hits)

module _ (query : PlainQuery) (segments : List ViewedSegment) where
  kept_is : (k : ℕ) (rows : List Rank) (cut : Option PlainCut)
      (h : HaveSearched query segments k rows cut) → AreDistinct (live_in segments)
      → rows ≡ kept_rows k h.searches
  kept_is k rows cut h a =
      let all : List Rank = flat_map (λ s. s.rows) h.searches in
      let once : Once all = once_all query h.searches h.each
      (subst (λ (ss : List ViewedSegment). AreDistinct (live_in ss)) (sym h.of) a) in
      h.kept
      ∙ ap (take k) (ranking_unique (ranked h.put) (in_order rank_cmp all) h.put all
      (is_ranking-ranked h.put) (is_ranking-in_order all once) h.from h.all)

  by_rows : (searches : List Searched) (rows : List Rank) (cut : Option PlainCut)
      → map (λ s. s.segment) searches ≡ segments
      → rows ≡ closed_rows query.k (kept_rows query.k searches) (first_cut searches)
      → cut ≡ closed_cut query.k (kept_rows query.k searches) (first_cut searches)
      → IsReport query (map (λ s. s.segment) searches)
      (closed_rows query.k (kept_rows query.k searches) (first_cut searches))
      (closed_cut query.k (kept_rows query.k searches) (first_cut searches))
      → IsReport query segments rows cut
  by_rows searches rows cut of is at h =
      let R = closed_rows query.k (kept_rows query.k searches) (first_cut searches) in
      let C = closed_cut query.k (kept_rows query.k searches) (first_cut searches) in
      subst (λ (rs : List Rank). IsReport query segments rs cut) (sym is)
      (subst (λ (c : Option PlainCut). IsReport query segments R c) (sym at)
      (subst (λ (ss : List ViewedSegment). IsReport query ss R C) of h))

  -- what a collector reports of the rows of all searches
  is_report : (k : ℕ) (row : Hit → Rank) (hits : List Hit) (cut : Option PlainCut)
      → HaveSearched query segments k (map row hits) cut → k ≡ query.k
      → AreDistinct (live_in segments)
      → IsReport query segments (map row (closed k row hits cut).hits) (closed k row hits cut).cut
  is_report k row hits cut h same a =
      let kept = kept_is k (map row hits) cut h a in
      by_rows h.searches (map row (closed k row hits cut).hits) (closed k row hits cut).cut h.of
      (rows-closed row k hits cut
      ∙ ap (λ (rs : List Rank). closed_rows k rs cut) kept
      ∙ ap (λ (c : Option PlainCut). closed_rows k (kept_rows k h.searches) c) h.first
      ∙ ap (λ n. closed_rows n (kept_rows n h.searches) (first_cut h.searches)) same)
      (cut-closed row k hits cut
      ∙ ap (λ (rs : List Rank). closed_cut k rs cut) kept
      ∙ ap (λ (c : Option PlainCut). closed_cut k (kept_rows k h.searches) c) h.first
      ∙ ap (λ n. closed_cut n (kept_rows n h.searches) (first_cut h.searches)) same)
      (closes_soundly query h.searches h.each)

-- the report that it gives
pub view_report : (query : PlainQuery) (segments : List ViewedSegment) (k : ℕ) (row : Hit → Rank)
    (all hits : List Hit) (first cut : Option PlainCut) → hits ≡ (closed k row all first).hits
    → cut ≡ (closed k row all first).cut → HaveSearched query segments k (map row all) first
    → k ≡ query.k → AreDistinct (live_in segments) → IsReport query segments (map row hits) cut
view_report query segments k row all hits first cut hits-are cut-is h same a =
    let C = closed k row all first in
    subst (λ (hs : List Hit). IsReport query segments (map row hs) cut) (sym hits-are)
    (subst (λ (c : Option PlainCut). IsReport query segments (map row C.hits) c) (sym cut-is)
    (is_report query segments k row all first h same a))

-- its hits are some of those that were kept
pub reported_hits : (P : Hit → Type 0) (k : ℕ) (row : Hit → Rank) (all hits : List Hit)
    (first : Option PlainCut) → hits ≡ (closed k row all first).hits → All P all → All P hits
reported_hits P k row all hits first are known =
    subst (All P) (sym are) (closed-all P k row all first known)
