-- The live documents of a view have different numbers, and so have the rows of its searches.
use Rattle.std.proofs.Common.{◌≡◌, ◌≤◌, ◌<◌, ◌+◌, ℕ, Bool, true, false, not, cond, nat_eq, inl, inr}
use Rattle.std.proofs.Common.{List, [], ◌∷◌, ◌++◌, map, take, refl, sym, ap, ◌∙◌, subst, arith}
use Rattle.std.specs.Prelude.{Option, Some, None, filter}
use Rattle.std.specs.List.{flat_map, AllByRecursion}
use Rattle.std.proofs.lemmas.Bool.Decides.{nat_tests}
use Rattle.std.proofs.lemmas.List.{append-nil}
use Rattle.sg_base.specs.Cuts.{PlainCut, precedes}
use Rattle.sg_base.specs.Lists.{In, Pairs}
use Rattle.sg_base.specs.Ranking.{rank_cmp}
use Rattle.sg_base.specs.declared.rank.Rank.{Rank}
use Rattle.sg_base.proofs.InOrderLemmas.{in-in_order}
use Rattle.sg_base.proofs.ListLemmas.{in-append, in-filter, pairs-append}
use Rattle.sg_base.proofs.RankingLemmas.{Once}
use Rattle.sg_context.specs.Queries.{PlainQuery}
use Rattle.sg_paths.specs.Operations.{PlainOp, PlainNumbered, documents_from}
use Rattle.sg_paths.specs.LiveDocuments.{is_deleted, live_documents}
use Rattle.sg_answers.specs.Answers.{answer, document_row}
use Rattle.sg_answers.specs.Reports.{live_in, IsSound}
use Rattle.sg_answers.specs.Closing.{Searched, IsSearched}
use Rattle.collector.proofs.ListLemmas.{in-take, pairs-take}
use Rattle.best_first.proofs.AnswerLemmas.{AreDistinct, row_seq, once_rows, once_in_order}
use Rattle.best_first.proofs.MemberLemmas.{in-left, in-right, in-filter_map}
use Rattle.best_first.proofs.OrderedLemmas.{pairs-filter, pairs-members}
use Rattle.segment.specs.Items.{total_of, HaveSameItems}
use Rattle.segment.proofs.NumberLemmas.{numbers_rise}
use Rattle.sg_view.specs.Viewing.{PlainView, viewed_segments, Represents}
use Rattle.sg_view.proofs.SegmentLemmas.{rising}

-- ---- numbers that differ

abbrev has_number : ℕ → PlainNumbered → ℕ
has_number n d = cond (nat_eq d.seq n) 1 0

number_of_other : (a b n : ℕ) → nat_eq a n ≡ true → nat_eq a b ≡ false → nat_eq b n ≡ false
number_of_other a b n h k = grind (arith, nat_tests)

none : (n : ℕ) (ds : List PlainNumbered)
    → ((e : PlainNumbered) → In e ds → nat_eq e.seq n ≡ false) → total_of (has_number n) ds ≡ 0
none n [] f = refl
none n (d ∷ ds) f =
    ap (λ b. cond b 1 0 + total_of (has_number n) ds) (f d (inl refl))
    ∙ ap (λ m. 0 + m) (none n ds (λ e i. f e (inr i)))

one_at : (n : ℕ) (d : PlainNumbered) (ds : List PlainNumbered) (b : Bool) → nat_eq d.seq n ≡ b
    → ((e : PlainNumbered) → In e ds → nat_eq d.seq e.seq ≡ false)
    → total_of (has_number n) ds ≤ 1 → cond b 1 0 + total_of (has_number n) ds ≤ 1
one_at n d ds true is f most =
    let others = none n ds (λ e i. number_of_other d.seq e.seq n is (f e i)) in
    omega (arith, others)
one_at n d ds false is f most = omega (arith, most)

at_most_one : (n : ℕ) (ds : List PlainNumbered) → AreDistinct ds → total_of (has_number n) ds ≤ 1
at_most_one n [] a = omega arith
at_most_one n (d ∷ ds) a = one_at n d ds (nat_eq d.seq n) refl a.0 (at_most_one n ds a.1)

counted : (n : ℕ) (e : PlainNumbered) (ds : List PlainNumbered) → In e ds → nat_eq e.seq n ≡ true
    → 1 ≤ total_of (has_number n) ds
counted n e [] i is = elim i [ ]
counted n e (d ∷ ds) (inl same) is =
    let h : nat_eq d.seq n ≡ true = subst (λ (z : PlainNumbered). nat_eq z.seq n ≡ true) same is in
    subst (λ b. 1 ≤ cond b 1 0 + total_of (has_number n) ds) (sym h) (omega arith)
counted n e (d ∷ ds) (inr i) is = let h = counted n e ds i is in omega (arith, h)

itself : (n : ℕ) → nat_eq n n ≡ true
itself n = grind (arith, nat_tests)

turned : (m n : ℕ) → nat_eq m n ≡ true → nat_eq n m ≡ true
turned m n h = grind (arith, nat_tests)

apart_at : (d e : PlainNumbered) (ds : List PlainNumbered) (b : Bool) → nat_eq d.seq e.seq ≡ b
    → In e ds → total_of (has_number d.seq) (d ∷ ds) ≤ 1 → nat_eq d.seq e.seq ≡ false
apart_at d e ds false is i most = is
apart_at d e ds true is i most =
    let other = counted d.seq e ds i (turned d.seq e.seq is) in
    let own : has_number d.seq d ≡ 1 = ap (λ b. cond b 1 0) (itself d.seq) in
    absurd (omega (arith, other, own, most))

distinct_by : (ds : List PlainNumbered) → ((n : ℕ) → total_of (has_number n) ds ≤ 1)
    → AreDistinct ds
distinct_by [] most = tt
distinct_by (d ∷ ds) most = (
  λ e i. apart_at d e ds (nat_eq d.seq e.seq) refl i (most d.seq),
  distinct_by ds (λ n. let h = most n in omega (arith, h)),
)

differ : (m n : ℕ) → m < n → nat_eq m n ≡ false
differ m n less = grind (arith, nat_tests)

live_distinct : (journal : List PlainOp) (upto : ℕ) → AreDistinct (live_documents journal upto)
live_distinct journal upto =
    let ds = documents_from 1 (take upto journal) in
    pairs-filter (λ (a b : PlainNumbered). nat_eq a.seq b.seq ≡ false)
    (λ d. not (is_deleted journal upto d)) ds
    (pairs-members (λ (a b : PlainNumbered). a.seq < b.seq)
    (λ (a b : PlainNumbered). nat_eq a.seq b.seq ≡ false) ds
    (rising ds (numbers_rise 1 (take upto journal)))
    (λ x y i j less. differ x.seq y.seq less))

same_distinct : (xs ys : List PlainNumbered) → HaveSameItems xs ys → AreDistinct ys
    → AreDistinct xs
same_distinct xs ys same a =
    distinct_by xs (λ n.
    let h = same (has_number n) in
    let most = at_most_one n ys a in omega (arith, h, most))

-- those of a view that represents a journal
pub view_distinct : (journal : List PlainOp) (v : PlainView) → Represents journal v
    → AreDistinct (live_in (viewed_segments v))
view_distinct journal v are =
    same_distinct (live_in (viewed_segments v)) (live_documents journal v.upto) are.live
    (live_distinct journal v.upto)

-- ---- pairs of lists that are joined

pairs_front : {X : Type 0} (R : X → X → Type 0) (xs ys : List X) → Pairs R (xs ++ ys) → Pairs R xs
pairs_front R [] ys p = tt
pairs_front R (x ∷ xs) ys p = (λ y i. p.0 y (in-left y xs ys i), pairs_front R xs ys p.1)

pairs_back : {X : Type 0} (R : X → X → Type 0) (xs ys : List X) → Pairs R (xs ++ ys) → Pairs R ys
pairs_back R [] ys p = p
pairs_back R (x ∷ xs) ys p = pairs_back R xs ys p.1

pairs_across : {X : Type 0} (R : X → X → Type 0) (xs ys : List X) → Pairs R (xs ++ ys) → (x y : X)
    → In x xs → In y ys → R x y
pairs_across R [] ys p x y i j = elim i [ ]
pairs_across R (z ∷ xs) ys p x y (inl e) j =
    subst (λ w. R w y) (sym e) (p.0 y (in-right y xs ys j))
pairs_across R (z ∷ xs) ys p x y (inr i) j = pairs_across R xs ys p.1 x y i j

-- ---- rows

-- a row with the number of one of these documents
abbrev HasDocument : List PlainNumbered → Rank → Type 0
HasDocument ds r = (d : PlainNumbered) × In d ds × (r.seq ≡ d.seq)

of_document : (query : PlainQuery) (ds : List PlainNumbered) (r : Rank) → In r (answer query ds)
    → HasDocument ds r
of_document query ds r i =
    let e = in-filter_map (document_row query) r ds (in-in_order rank_cmp r _ i) in
    (e.0, e.1, row_seq query e.0 r e.2)

once_answer : (query : PlainQuery) (ds : List PlainNumbered) → AreDistinct ds
    → Once (answer query ds)
once_answer query ds a = once_in_order _ (once_rows query ds a)

module _ (query : PlainQuery) where
  sound_from : (ds : List PlainNumbered) (s : Searched) (cut : Option PlainCut)
      → s.segment.live ≡ ds → IsSound query (s.segment ∷ []) s.rows cut
      → (r : Rank) → In r s.rows → In r (answer query ds)
  sound_from ds s None is sound r i =
      let all = ap (answer query) (append-nil s.segment.live ∙ is) in
      in-take r query.k (answer query ds)
      (subst (In r) (sound ∙ ap (take query.k) all) i)
  sound_from ds s (Some cut) is sound r i =
      let all = ap (answer query) (append-nil s.segment.live ∙ is) in
      (in-filter (precedes cut) r (answer query ds)
      (subst (In r) (sound.0 ∙ ap (filter (precedes cut)) all) i)).0

  sound_once : (s : Searched) (cut : Option PlainCut) → AreDistinct s.segment.live
      → IsSound query (s.segment ∷ []) s.rows cut → Once s.rows
  sound_once s None a sound =
      let all = ap (answer query) (append-nil s.segment.live) in
      subst Once (sym (sound ∙ ap (take query.k) all))
      (pairs-take (λ a b. nat_eq a.seq b.seq ≡ false) query.k (answer query s.segment.live)
      (once_answer query s.segment.live a))
  sound_once s (Some cut) a sound =
      let all = ap (answer query) (append-nil s.segment.live) in
      subst Once (sym (sound.0 ∙ ap (filter (precedes cut)) all))
      (pairs-filter (λ a b. nat_eq a.seq b.seq ≡ false) (precedes cut)
      (answer query s.segment.live) (once_answer query s.segment.live a))

  searched_from : (s : Searched) → IsSearched query s → (r : Rank) → In r s.rows
      → HasDocument s.segment.live r
  searched_from s (inl h) r i =
      of_document query s.segment.live r
      (sound_from s.segment.live s s.cut refl h.1.sound r i)
  searched_from s (inr h) r i = elim (subst (In r) h.1 i) [ ]

  searched_once : (s : Searched) → IsSearched query s → AreDistinct s.segment.live → Once s.rows
  searched_once s (inl h) a = sound_once s s.cut a h.1.sound
  searched_once s (inr h) a = subst Once (sym h.1) tt

  abbrev pub all_rows : List Searched → List Rank
  all_rows ss = flat_map (λ s. s.rows) ss

  abbrev all_live : List Searched → List PlainNumbered
  all_live ss = live_in (map (λ s. s.segment) ss)

  all_from : (ss : List Searched) → AllByRecursion (IsSearched query) ss → (r : Rank)
      → In r (all_rows ss) → HasDocument (all_live ss) r
  all_from [] are r i = elim i [ ]
  all_from (s ∷ ss) are r i =
      elim (in-append r s.rows (all_rows ss) i) as (λ _. HasDocument (all_live (s ∷ ss)) r) [
        | inl j ↦
            let e = searched_from s are.0 r j in
            (e.0, in-left e.0 s.segment.live (all_live ss) e.1, e.2)
        | inr j ↦
            let e = all_from ss are.1 r j in
            (e.0, in-right e.0 s.segment.live (all_live ss) e.1, e.2)
      ]

  -- no document has two of the rows
  pub once_all : (ss : List Searched) → AllByRecursion (IsSearched query) ss
      → AreDistinct (all_live ss) → Once (all_rows ss)
  once_all [] are a = tt
  once_all (s ∷ ss) are a =
      let R : PlainNumbered → PlainNumbered → Type 0 = λ x y. nat_eq x.seq y.seq ≡ false in
      let ds = s.segment.live in
      pairs-append (λ (x y : Rank). nat_eq x.seq y.seq ≡ false) s.rows (all_rows ss)
      (searched_once s are.0 (pairs_front R ds (all_live ss) a))
      (once_all ss are.1 (pairs_back R ds (all_live ss) a))
      (λ x y i j.
      let d = searched_from s are.0 x i in
      let e = all_from ss are.1 y j in
      let other : nat_eq d.0.seq e.0.seq ≡ false =
      pairs_across R ds (all_live ss) a d.0 e.0 d.1 e.1 in
      subst (λ m. nat_eq m y.seq ≡ false) (sym d.2)
      (subst (λ n. nat_eq d.0.seq n ≡ false) (sym e.2) other))
