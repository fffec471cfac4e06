-- The answer over documents is the ranking of their matching paths.
use Rattle.std.proofs.Common.{◌≡◌, inl, inr, ℕ, true, false, nat_eq}
use Rattle.std.proofs.Common.{List, [], ◌∷◌, refl, sym, ap, ◌∙◌, subst, arith}
use Rattle.std.specs.Prelude.{Option, Some, None, filter_map, flat_map, slice_get, option_map}
use Rattle.std.specs.List.{cons_option}
use Rattle.std.specs.declared.cmp.Ordering.TheVariants.{Equal}
use Rattle.std.proofs.lemmas.Bool.Decides.{nat_tests}
use Rattle.sg_base.specs.Lists.{In, Pairs}
use Rattle.sg_base.specs.Ranking.{rank_cmp, rank_cmp_total, in_order, IsRanking}
use Rattle.sg_base.specs.Rows.{ranked}
use Rattle.sg_base.specs.declared.rank.Rank.{Rank}
use Rattle.sg_base.proofs.InOrderLemmas.{in-in_order, pairs-in_order}
use Rattle.sg_base.proofs.Orders.{at_most_itself}
use Rattle.sg_base.proofs.RankLemmas.{rank_cmp_exact}
use Rattle.sg_base.proofs.RankingLemmas.{rank_lt, ranks_ordered, Ascending, Once}
use Rattle.sg_base.proofs.RankingLemmas.{ranking_unique}
use Rattle.collector.proofs.RankingLemmas.{is_ranking-ranked}
use Rattle.sg_context.specs.Queries.{PlainQuery}
use Rattle.sg_paths.specs.Operations.{PlainNumbered}
use Rattle.sg_paths.specs.Paths.{PlainPath, paths}
use Rattle.sg_answers.specs.Answers.{path_boost, path_rank, rank_with, matching_ranks, first_rank}
use Rattle.sg_answers.specs.Answers.{document_row, answer}
use Rattle.best_first.proofs.OrderedLemmas.{RisesBy, rises_in_order, in_order-has, strictly}
use Rattle.best_first.proofs.OrderedLemmas.{pairs-members}
use Rattle.best_first.proofs.MemberLemmas.{in-filter_map, filter_map-has, in-flat_map, flat_map-has}

turned : (m n : ℕ) → nat_eq m n ≡ false → nat_eq n m ≡ false
turned m n h = grind (arith, nat_tests)

pub once_in_order : (xs : List Rank) → Once xs → Once (in_order rank_cmp xs)
once_in_order xs o =
    pairs-in_order rank_cmp (λ a b. nat_eq a.seq b.seq ≡ false) (λ x y h. turned x.seq y.seq h) xs o

itself : (n : ℕ) → nat_eq n n ≡ true
itself n = grind (arith, nat_tests)

apart : (x y : Rank) → nat_eq x.seq y.seq ≡ false → rank_cmp x y ≡ Equal → ⊥
apart x y n ties =
    let same : x ≡ y = rank_cmp_exact x y ties in
    let no : true ≡ false =
    sym (itself x.seq) ∙ subst (λ z. nat_eq x.seq z.seq ≡ false) (sym same) n in absurd cc

rises : (xs : List Rank) → RisesBy rank_cmp rank_cmp_total (in_order rank_cmp xs)
rises xs = rises_in_order rank_cmp rank_cmp_total xs

pub rising : (xs : List Rank) → Once (in_order rank_cmp xs) → Ascending (in_order rank_cmp xs)
rising xs o =
    strictly rank_cmp rank_cmp_total (in_order rank_cmp xs) (rises xs)
    (pairs-members (λ a b. nat_eq a.seq b.seq ≡ false) (λ a b. rank_cmp a b ≡ Equal → ⊥)
    (in_order rank_cmp xs) o (λ x y i j n. apart x y n))

-- the rows of documents
head_in : (r : Rank) (xs : List Rank) → slice_get xs 0 ≡ Some r → In r xs
head_in r [] h = cc
head_in r (x ∷ xs) h = inl (let t : r ≡ x = cc in t)

head_of : (s : Rank) (xs : List Rank) → In s xs → RisesBy rank_cmp rank_cmp_total xs
    → (r : Rank) × (slice_get xs 0 ≡ Some r) × (rank_lt s r ≡ false)
head_of s [] i up = elim i [ ]
head_of s (x ∷ xs) (inl i) up =
    (x, refl, subst (λ z. rank_lt z x ≡ false) (sym i) (at_most_itself rank_lt ranks_ordered x))
head_of s (x ∷ xs) (inr i) up = (x, refl, up.0 s i)

first_rank-in : (r : Rank) (xs : List Rank) → first_rank xs ≡ Some r → In r xs
first_rank-in r xs h = in-in_order rank_cmp r xs (head_in r (in_order rank_cmp xs) h)

first_rank-least : (s : Rank) (xs : List Rank) → In s xs
    → (r : Rank) × (first_rank xs ≡ Some r) × (rank_lt s r ≡ false)
first_rank-least s xs i =
    head_of s (in_order rank_cmp xs) (in_order-has rank_cmp s xs i) (rises xs)

seq_of : (seq : ℕ) (p : PlainPath) (b : Option ℕ) (r : Rank)
    → option_map (rank_with seq p) b ≡ Some r → r.seq ≡ seq
seq_of seq p None r h = cc
seq_of seq p (Some b) r h = let t : r ≡ rank_with seq p b = cc in ap (λ z. z.seq) t

pub matching_ranks-seq : (query : PlainQuery) (d : PlainNumbered) (r : Rank)
    → In r (matching_ranks query d) → r.seq ≡ d.seq
matching_ranks-seq query d r i =
    let p = in-filter_map (path_rank query d.seq) r (paths d.document) i in
    seq_of d.seq p.0 (path_boost query p.0) r p.2

-- no number stands twice
abbrev pub AreDistinct : List PlainNumbered → Type 0
AreDistinct = Pairs (λ a b. nat_eq a.seq b.seq ≡ false)

pub row_seq : (query : PlainQuery) (d : PlainNumbered) (r : Rank) → document_row query d ≡ Some r
    → r.seq ≡ d.seq
row_seq query d r h =
    matching_ranks-seq query d r (first_rank-in r (matching_ranks query d) h)

once_rows_at : (query : PlainQuery) (o : Option Rank) (d : PlainNumbered) (ds : List PlainNumbered)
    → document_row query d ≡ o → ((e : PlainNumbered) → In e ds → nat_eq d.seq e.seq ≡ false)
    → Once (filter_map (document_row query) ds)
    → Once (cons_option o (filter_map (document_row query) ds))
once_rows_at query None d ds is f h = h
once_rows_at query (Some r) d ds is f h = (
  λ s i.
      let e = in-filter_map (document_row query) s ds i in
      let n : nat_eq d.seq e.0.seq ≡ false = f e.0 e.1 in
      subst (λ z. nat_eq z s.seq ≡ false) (sym (row_seq query d r is))
      (subst (λ z. nat_eq d.seq z ≡ false) (sym (row_seq query e.0 s e.2)) n),
  h,
)

pub once_rows : (query : PlainQuery) (ds : List PlainNumbered) → AreDistinct ds
    → Once (filter_map (document_row query) ds)
once_rows query [] d = tt
once_rows query (x ∷ ds) d =
    once_rows_at query (document_row query x) x ds refl d.0 (once_rows query ds d.1)

-- the answer is the ranking of the matching paths
pub is_ranking-answer : (query : PlainQuery) (ds : List PlainNumbered) → AreDistinct ds
    → IsRanking (answer query ds) (flat_map (matching_ranks query) ds)
is_ranking-answer query ds d =
    let rows : List Rank = filter_map (document_row query) ds in
    let once : Once (in_order rank_cmp rows) = once_in_order rows (once_rows query ds d) in
    record {
      ascending = rising rows once;
      once = once;
      from = λ r i.
          let e = in-filter_map (document_row query) r ds (in-in_order rank_cmp r rows i) in
          flat_map-has (matching_ranks query) r e.0 ds e.1
          (first_rank-in r (matching_ranks query e.0) e.2);
      best = λ s i.
          let e = in-flat_map (matching_ranks query) s ds i in
          let r = first_rank-least s (matching_ranks query e.0) e.2 in (
            r.0,
            in_order-has rank_cmp r.0 rows (filter_map-has (document_row query) r.0 e.0 ds r.1 e.1),
            row_seq query e.0 r.0 r.1 ∙ sym (matching_ranks-seq query e.0 s e.2),
            r.2,
          );
    }

-- so it is what a collector ranks, in whatever order and however often the matching paths come
pub ranked-answer : (query : PlainQuery) (ds : List PlainNumbered) (rows : List Rank)
    → AreDistinct ds
    → ((r : Rank) → In r rows → In r (flat_map (matching_ranks query) ds))
    → ((r : Rank) → In r (flat_map (matching_ranks query) ds) → In r rows)
    → ranked rows ≡ answer query ds
ranked-answer query ds rows d f g =
    ranking_unique (ranked rows) (answer query ds) rows (flat_map (matching_ranks query) ds)
    (is_ranking-ranked rows) (is_ranking-answer query ds d) f g
