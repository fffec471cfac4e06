-- One segment more is searched.
use Rattle.std.proofs.Common.{◌≡◌, ◌⊎◌, ◌<◌, ◌≤◌, ◌-◌, inl, inr, ℕ, zero, suc, List, [], ◌∷◌}
use Rattle.std.proofs.Common.{◌++◌, length, map, take, drop, refl, sym, ap, ◌∙◌, subst, arith}
use Rattle.std.specs.Prelude.{Option, None}
use Rattle.std.specs.List.{flat_map}
use Rattle.sg_base.specs.Cuts.{PlainCut}
use Rattle.sg_base.specs.Lists.{In}
use Rattle.sg_base.specs.Rows.{put_row, ranked}
use Rattle.sg_base.specs.declared.rank.Rank.{Rank}
use Rattle.sg_base.proofs.ListLemmas.{in-append}
use Rattle.sg_context.specs.Queries.{PlainQuery}
use Rattle.sg_answers.specs.Reports.{ViewedSegment}
use Rattle.sg_answers.specs.Closing.{Searched, cut_cmp}
use Rattle.sg_answers.specs.Scans.{sooner}
use Rattle.collector.proofs.HitLemmas.{first-put}
use Rattle.best_first.proofs.MemberLemmas.{in-left, in-right}
use Rattle.sg_view.specs.Searched.{searched, segment_at, collected, AddsSearch, HaveSearched}
use Rattle.sg_view.specs.Viewing.{LiveSegment, seen_segment}
use Rattle.sg_view.proofs.StepLemmas.{one_before}

-- rows that are put to others, one after another
abbrev put_all : List Rank → List Rank → List Rank
put_all [] all = all
put_all (r ∷ rows) all = put_all rows (r ∷ all)

collected-ranked : (k : ℕ) (rows kept all : List Rank) → kept ≡ take k (ranked all)
    → collected k rows kept ≡ take k (ranked (put_all rows all))
collected-ranked k [] kept all is = is
collected-ranked k (r ∷ rows) kept all is =
    collected-ranked k rows (take k (put_row r kept)) (r ∷ all)
    (first-put k r kept (take k (put_row r kept)) all refl is)

in_put_all : (e : Rank) (rows all : List Rank) → In e (put_all rows all) → In e rows ⊎ In e all
in_put_all e [] all i = inr i
in_put_all e (r ∷ rows) all i =
    elim (in_put_all e rows (r ∷ all) i) as (λ _. In e (r ∷ rows) ⊎ In e all) [
      | inl j ↦ inl (inr j)
      | inr j ↦ elim j as (λ _. In e (r ∷ rows) ⊎ In e all) [ inl h ↦ inl (inl h) | inr h ↦ inr h ]
    ]

put_before : (e : Rank) (rows all : List Rank) → In e all → In e (put_all rows all)
put_before e [] all i = i
put_before e (r ∷ rows) all i = put_before e rows (r ∷ all) (inr i)

put_now : (e : Rank) (rows all : List Rank) → In e rows → In e (put_all rows all)
put_now e [] all i = elim i [ ]
put_now e (r ∷ rows) all (inl h) = put_before e rows (r ∷ all) (inl h)
put_now e (r ∷ rows) all (inr i) = put_now e rows (r ∷ all) i

abbrev rows_of : List Searched → List Rank
rows_of ss = flat_map (λ s. s.rows) ss

taken_none : (k : ℕ) → ranked [] ≡ take k (ranked [])
taken_none zero = refl
taken_none (suc k) = refl

none_searched : (query : PlainQuery) (k : ℕ) → HaveSearched query [] k [] None
none_searched query k = record {
  searches = [];
  put = [];
  of = refl;
  each = tt;
  from = λ r i. i;
  all = λ r i. i;
  kept = taken_none k;
  first = refl;
}

none_left : (segments : List LiveSegment) (n : ℕ) → n ≡ length segments → drop n segments ≡ []
none_left [] zero e = refl
none_left [] (suc n) e = refl
none_left (s ∷ segments) zero e = absurd (omega (arith, e))
none_left (s ∷ segments) (suc n) e = none_left segments n (omega (arith, e))

-- no segment was searched yet
pub begun : (query : PlainQuery) (k n : ℕ) (segments : List LiveSegment) (rows : List Rank)
    → n ≡ length segments → rows ≡ []
    → HaveSearched query (map seen_segment (drop n segments)) k rows None
begun query k n segments rows all none =
    let nothing : map seen_segment (drop n segments) ≡ [] =
    ap (map seen_segment) (none_left segments n all) in
    subst (λ (rs : List Rank). HaveSearched query (map seen_segment (drop n segments)) k rs None)
    (sym none)
    (subst (λ (ss : List ViewedSegment). HaveSearched query ss k [] None) (sym nothing)
    (none_searched query k))

-- one more segment is searched, the one before those from a place on
one_more : (query : PlainQuery) (s : ViewedSegment) (segments : List ViewedSegment) (k : ℕ)
    (old new : List Rank) (cut own first : Option PlainCut) → HaveSearched query segments k old cut
    → AddsSearch query s k old new own → first ≡ sooner cut_cmp own cut
    → HaveSearched query (s ∷ segments) k new first
one_more query s segments k old new cut own first h a is =
    let rows : List Rank = a.0 in
    let rest : List Rank = rows_of h.searches in
    record {
      searches = searched s rows own ∷ h.searches;
      put = put_all rows h.put;
      of = ap (λ (ss : List ViewedSegment). s ∷ ss) h.of;
      each = (a.1, h.each);
      from = λ r i. elim (in_put_all r rows h.put i) as (λ _. In r (rows ++ rest)) [
        | inl j ↦ in-left r rows rest j
        | inr j ↦ in-right r rows rest (h.from r j)
      ];
      all = λ r i. elim (in-append r rows rest i) as (λ _. In r (put_all rows h.put)) [
        | inl j ↦ put_now r rows h.put j
        | inr j ↦ put_before r rows h.put (h.all r j)
      ];
      kept = a.2 ∙ collected-ranked k rows old h.put h.kept;
      first = is ∙ ap (sooner cut_cmp own) h.first;
    }

pub more : (query : PlainQuery) (segments : List LiveSegment) (n k : ℕ) (old new : List Rank)
    (cut own first : Option PlainCut) → 0 < n → n ≤ length segments
    → HaveSearched query (map seen_segment (drop n segments)) k old cut
    → AddsSearch query (segment_at segments (n - 1)) k old new own
    → first ≡ sooner cut_cmp own cut
    → HaveSearched query (map seen_segment (drop (n - 1) segments)) k new first
more query segments n k old new cut own first some within h a is =
    subst (λ (ss : List ViewedSegment). HaveSearched query ss k new first)
    (sym (one_before segments n some within))
    (one_more query (segment_at segments (n - 1)) (map seen_segment (drop n segments)) k old new
    cut own first h a is)
