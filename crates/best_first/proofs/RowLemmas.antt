-- Which rows don't matter to the first k, and to those that precede a truncation point.
use Rattle.std.proofs.Common.{◌≡◌, ◌≤◌, ◌<◌, ◌+◌, ◌⊎◌, inl, inr, ℕ, zero, suc, Bool, true, false}
use Rattle.std.proofs.Common.{cond, nat_eq, not, List, [], ◌∷◌, ◌++◌, length, take, refl, sym, ap}
use Rattle.std.proofs.Common.{◌∙◌, subst, arith}
use Rattle.std.specs.List.{filter, AllByRecursion}
use Rattle.std.proofs.lemmas.Bool.{false_from_ne_true}
use Rattle.sg_base.specs.Lists.{In}
use Rattle.sg_base.specs.Rows.{without, put_row, ranked}
use Rattle.sg_base.specs.declared.rank.Rank.{Rank}
use Rattle.sg_base.proofs.ListLemmas.{in-append, all_of}
use Rattle.sg_base.proofs.MarkLemmas.{GoesDown}
use Rattle.sg_base.proofs.Orders.{at_most_trans, weaken}
use Rattle.sg_base.proofs.RankingLemmas.{rank_lt, ranks_ordered, Ascending, Once}
use Rattle.sg_answers.proofs.TakingLemmas.{filter_at_most}
use Rattle.collector.proofs.KeptLemmas.{others_from, without-others}
use Rattle.collector.proofs.ListLemmas.{in-take}
use Rattle.collector.proofs.RankingLemmas.{is_ranking-ranked, ranked-same, in-without}
use Rattle.best_first.proofs.MemberLemmas.{in-left, in-right}

-- a row that is there already changes nothing
known : (u : Rank) (xs : List Rank) → In u xs → ranked (u ∷ xs) ≡ ranked xs
known u xs i = ranked-same (u ∷ xs) xs
    (λ r j. elim j as (λ _. In r xs) [ inl k ↦ subst (λ z. In z xs) (sym k) i | inr k ↦ k ])
    (λ r j. inr j)

-- rows of which all are among the later ones change nothing
pub ranked-within : (xs ys : List Rank) → ((r : Rank) → In r ys → In r xs)
    → ranked (xs ++ ys) ≡ ranked xs
ranked-within xs ys f =
    ranked-same (xs ++ ys) xs (λ r j. elim (in-append r xs ys j) as (λ _. In r xs)
    [ inl k ↦ k | inr k ↦ f r k ]) (λ r j. in-left r xs ys j)

long_enough : {X : Type 0} (k : ℕ) (xs ys : List X) → take k xs ≡ take k ys → k ≤ length ys
    → k ≤ length xs
long_enough zero xs ys e h = omega arith
long_enough (suc k) [] [] e h = absurd (omega arith)
long_enough (suc k) [] (y ∷ ys) e h = cc
long_enough (suc k) (x ∷ xs) [] e h = absurd (omega arith)
long_enough (suc k) (x ∷ xs) (y ∷ ys) e h =
    let tails : take k xs ≡ take k ys = cc in
    let l : k ≤ length ys = omega (arith, h) in
    let m = long_enough k xs ys tails l in omega (arith, m)

late_at : (a b : Bool) (k : ℕ) (r x : Rank) (xs : List Rank) → a ≡ true
    → take k (put_row r xs) ≡ take k xs
    → take (suc k) (cond a (cond b (x ∷ xs) (x ∷ put_row r xs)) (r ∷ without r.seq (x ∷ xs)))
    ≡ take (suc k) (x ∷ xs)
late_at true true k r x xs l e = refl
late_at true false k r x xs l e = ap (λ zs. x ∷ zs) e
late_at false b k r x xs l e = cc

-- a row after the first k is none of them
put_row-late : (k : ℕ) (r : Rank) (xs : List Rank) → k ≤ length xs
    → AllByRecursion (λ x. rank_lt x r ≡ true) (take k xs) → take k (put_row r xs) ≡ take k xs
put_row-late zero r xs l a = refl
put_row-late (suc k) r [] l a = absurd (omega arith)
put_row-late (suc k) r (x ∷ xs) l a =
    late_at (rank_lt x r) (nat_eq x.seq r.seq) k r x xs a.0
    (put_row-late k r xs (omega arith) a.1)

-- the first k stay where each further row is there already or stands after them
pub first-late : (k : ℕ) (s us : List Rank) → k ≤ length (ranked s)
    → ((u : Rank) → In u us → In u s ⊎ ((x : Rank) → In x (take k (ranked s)) → rank_lt x u ≡ true))
    → take k (ranked (us ++ s)) ≡ take k (ranked s)
first-late k s [] h f = refl
first-late k s (u ∷ us) h f =
    let more = first-late k s us h (λ v i. f v (inr i)) in
    elim (f u (inl refl)) as (λ _. take k (ranked (u ∷ (us ++ s))) ≡ take k (ranked s)) [
      | inl i ↦ ap (take k) (known u (us ++ s) (in-right u us s i)) ∙ more
      | inr late ↦
          put_row-late k u (ranked (us ++ s)) (long_enough k (ranked (us ++ s)) (ranked s) more h)
          (subst (AllByRecursion (λ x. rank_lt x u ≡ true)) (sym more)
          (all_of (λ x. rank_lt x u ≡ true) (take k (ranked s)) late))
          ∙ more
    ]

-- what precedes

fails : (pre : Rank → Bool) → GoesDown pre → (x y : Rank) → rank_lt y x ≡ false → pre x ≡ false
    → pre y ≡ false
fails pre down x y h n =
    false_from_ne_true (pre y) (λ e.
    let never : true ≡ false = sym (down x y h e) ∙ n in cc)

filter-none : (pre : Rank → Bool) (xs : List Rank) → ((e : Rank) → In e xs → pre e ≡ false)
    → filter pre xs ≡ []
filter-none pre [] f = refl
filter-none pre (x ∷ xs) f =
    let h = f x (inl refl) in
    rw h (filter-none pre xs (λ e i. f e (inr i)))

behind_all : (r x e : Rank) (xs : List Rank) → Ascending (x ∷ xs) → rank_lt x r ≡ false
    → In e (x ∷ xs) → rank_lt e r ≡ false
behind_all r x e xs up h (inl i) = subst (λ z. rank_lt z r ≡ false) (sym i) h
behind_all r x e xs up h (inr i) =
    at_most_trans rank_lt ranks_ordered r x e h (weaken rank_lt ranks_ordered x e (up.0 e i))

same_kept : (b : Bool) (x : Rank) (xs ys : List Rank) → xs ≡ ys
    → cond b (x ∷ xs) xs ≡ cond b (x ∷ ys) ys
same_kept true x xs ys e = ap (λ zs. x ∷ zs) e
same_kept false x xs ys e = e

put_fails_at : (pre : Rank → Bool) → GoesDown pre → (a b : Bool) (r x : Rank) (xs : List Rank)
    → rank_lt x r ≡ a → pre r ≡ false → Ascending (x ∷ xs)
    → filter pre (put_row r xs) ≡ filter pre xs
    → filter pre (cond a (cond b (x ∷ xs) (x ∷ put_row r xs)) (r ∷ without r.seq (x ∷ xs)))
    ≡ filter pre (x ∷ xs)
put_fails_at pre down true true r x xs is n up more = refl
put_fails_at pre down true false r x xs is n up more =
    same_kept (pre x) x (filter pre (put_row r xs)) (filter pre xs) more
put_fails_at pre down false b r x xs is n up more =
    let none : (e : Rank) → In e (x ∷ xs) → pre e ≡ false =
    λ e i. fails pre down r e (behind_all r x e xs up is i) n in
    filter-none pre (r ∷ without r.seq (x ∷ xs))
    (λ e i. elim i as (λ _. pre e ≡ false) [
      | inl k ↦ subst (λ z. pre z ≡ false) (sym k) n
      | inr k ↦ none e
          (in-without e r.seq (x ∷ xs) k).0
    ])
    ∙ sym (filter-none pre (x ∷ xs) none)

alone : (pre : Rank → Bool) (r : Rank) → pre r ≡ false → filter pre (r ∷ []) ≡ []
alone pre r n = rw n refl

put_fails : (pre : Rank → Bool) → GoesDown pre → (r : Rank) (xs : List Rank) → pre r ≡ false
    → Ascending xs → filter pre (put_row r xs) ≡ filter pre xs
put_fails pre down r [] n up = alone pre r n
put_fails pre down r (x ∷ xs) n up =
    put_fails_at pre down (rank_lt x r) (nat_eq x.seq r.seq) r x xs refl n up
    (put_fails pre down r xs n up.1)

-- the preceding rows stay where each further row is there already or doesn't precede
pub preceding-more : (pre : Rank → Bool) → GoesDown pre → (s us : List Rank)
    → ((u : Rank) → In u us → In u s ⊎ (pre u ≡ false))
    → filter pre (ranked (us ++ s)) ≡ filter pre (ranked s)
preceding-more pre down s [] f = refl
preceding-more pre down s (u ∷ us) f =
    let more = preceding-more pre down s us (λ v i. f v (inr i)) in
    elim (f u (inl refl)) as (λ _. filter pre (ranked (u ∷ (us ++ s))) ≡ filter pre (ranked s)) [
      | inl i ↦ ap (filter pre) (known u (us ++ s) (in-right u us s i)) ∙ more
      | inr n ↦ put_fails pre down u (ranked (us ++ s)) n (is_ranking-ranked (us ++ s)).ascending
          ∙ more
    ]

-- where one of the first k doesn't precede, or there are no more than k, the first k have all that
-- do
abbrev pub SomeFails : (Rank → Bool) → ℕ → List Rank → Type 0
SomeFails pre k xs = (w : Rank) × In w (take k xs) × (pre w ≡ false)

pub filter-take : (pre : Rank → Bool) → GoesDown pre → (k : ℕ) (xs : List Rank) → Ascending xs
    → SomeFails pre k xs ⊎ (length xs ≤ k) → filter pre (take k xs) ≡ filter pre xs
filter-take pre down zero xs up (inl h) = elim h.1 [ ]
filter-take pre down zero [] up (inr h) = refl
filter-take pre down zero (x ∷ xs) up (inr h) = absurd (omega arith)
filter-take pre down (suc k) [] up h = refl
filter-take pre down (suc k) (x ∷ xs) up (inr h) =
    same_kept (pre x) x (filter pre (take k xs)) (filter pre xs)
    (filter-take pre down k xs up.1 (inr (omega (arith, h))))
filter-take pre down (suc k) (x ∷ xs) up (inl h) =
    elim h.1 as (λ _. filter pre (take (suc k) (x ∷ xs)) ≡ filter pre (x ∷ xs)) [
      | inl i ↦
          let n : pre x ≡ false = subst (λ z. pre z ≡ false) i h.2 in
          let none : (e : Rank) → In e xs → pre e ≡ false =
          λ e j. fails pre down x e (weaken rank_lt ranks_ordered x e (up.0 e j)) n in
          same_kept (pre x) x (filter pre (take k xs)) (filter pre xs)
          (filter-none pre (take k xs) (λ e j. none e (in-take e k xs j))
          ∙ sym (filter-none pre xs none))
      | inr i ↦ same_kept (pre x) x (filter pre (take k xs)) (filter pre xs)
          (filter-take pre down k xs up.1 (inl (h.0, i, h.2)))
    ]

fewer_at : (b : Bool) (x : Rank) (pre : Rank → Bool) (xs : List Rank) → pre x ≡ b
    → ((b ≡ false) ⊎ (length (filter pre xs) < length xs)) → length (filter pre xs) ≤ length xs
    → length (cond b (x ∷ filter pre xs) (filter pre xs)) < length (x ∷ xs)
fewer_at true x pre xs e (inl h) l = cc
fewer_at true x pre xs e (inr h) l = omega (arith, h)
fewer_at false x pre xs e h l = omega (arith, l)

pub fewer : (pre : Rank → Bool) (w : Rank) (xs : List Rank) → In w xs → pre w ≡ false
    → length (filter pre xs) < length xs
fewer pre w [] i n = elim i [ ]
fewer pre w (x ∷ xs) (inl i) n =
    fewer_at (pre x) x pre xs refl (inl (subst (λ z. pre z ≡ false) i n)) (filter_at_most pre xs)
fewer pre w (x ∷ xs) (inr i) n =
    fewer_at (pre x) x pre xs refl (inr (fewer pre w xs i n)) (filter_at_most pre xs)

-- more rows give no fewer

one_less_at : (b : Bool) (x : Rank) (n : ℕ) (xs : List Rank) → nat_eq x.seq n ≡ b
    → ((y : Rank) → In y xs → nat_eq x.seq y.seq ≡ false) → length xs ≤ length (without n xs) + 1
    → length (x ∷ xs) ≤ length (cond (not b) (x ∷ without n xs) (without n xs)) + 1
one_less_at true x n xs is f h =
    let e : length (without n xs) ≡ length xs =
    ap length (without-others n xs (others_from x n xs is f)) in
    omega (arith, e)
one_less_at false x n xs is f h = omega (arith, h)

one_less : (n : ℕ) (xs : List Rank) → Once xs → length xs ≤ length (without n xs) + 1
one_less n [] o = omega arith
one_less n (x ∷ xs) o = one_less_at (nat_eq x.seq n) x n xs refl o.0 (one_less n xs o.1)

no_fewer_at : (a b : Bool) (r x : Rank) (xs : List Rank) → Once (x ∷ xs)
    → length xs ≤ length (put_row r xs)
    → length (x ∷ xs) ≤ length (cond a (cond b (x ∷ xs) (x ∷ put_row r xs))
    (r ∷ without r.seq (x ∷ xs)))
no_fewer_at true true r x xs o h = omega arith
no_fewer_at true false r x xs o h = omega (arith, h)
no_fewer_at false b r x xs o h = let k = one_less r.seq (x ∷ xs) o in omega (arith, k)

no_fewer : (r : Rank) (xs : List Rank) → Once xs → length xs ≤ length (put_row r xs)
no_fewer r [] o = omega arith
no_fewer r (x ∷ xs) o = no_fewer_at (rank_lt x r) (nat_eq x.seq r.seq) r x xs o (no_fewer r xs o.1)

pub ranked-more : (s us : List Rank) → length (ranked s) ≤ length (ranked (us ++ s))
ranked-more s [] = omega arith
ranked-more s (u ∷ us) =
    let h = ranked-more s us in
    let k = no_fewer u (ranked (us ++ s)) (is_ranking-ranked (us ++ s)).once in
    omega (arith, h, k)
