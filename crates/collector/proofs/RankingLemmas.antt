-- Putting a row in keeps a ranking, and what rows give is their ranking.
use Rattle.std.proofs.Common.{◌≡◌, ◌⊎◌, inl, inr, ℕ, Bool, true, false, cond, nat_eq, not}
use Rattle.std.proofs.Common.{List, [], ◌∷◌, refl, sym, ◌∙◌, subst, arith}
use Rattle.std.proofs.lemmas.Bool.Decides.{nat_tests}
use Rattle.sg_base.specs.Lists.{In, Pairs}
use Rattle.sg_base.specs.Ranking.{IsRanking}
use Rattle.sg_base.specs.declared.rank.Rank.{Rank}
use Rattle.sg_base.proofs.Orders.{at_most_itself, at_most_trans, weaken}
use Rattle.sg_base.proofs.RankingLemmas.{rank_lt, ranks_ordered, Ascending, Once, one_rank}
use Rattle.sg_base.proofs.RankingLemmas.{ranking_unique}
use Rattle.sg_base.specs.Rows.{without, put_row, ranked}

-- the rows of other documents

in_without_at : (b : Bool) (e x : Rank) (n : ℕ) (xs : List Rank) → nat_eq x.seq n ≡ b
    → (In e (without n xs) → In e xs × (nat_eq e.seq n ≡ false))
    → In e (cond (not b) (x ∷ without n xs) (without n xs))
    → In e (x ∷ xs) × (nat_eq e.seq n ≡ false)
in_without_at true e x n xs is more h = (inr (more h).0, (more h).1)
in_without_at false e x n xs is more (inl h) =
    (inl h, subst (λ z. nat_eq z.seq n ≡ false) (sym h) is)
in_without_at false e x n xs is more (inr h) = (inr (more h).0, (more h).1)

pub in-without : (e : Rank) (n : ℕ) (xs : List Rank) → In e (without n xs)
    → In e xs × (nat_eq e.seq n ≡ false)
in-without e n [] h = elim h [ ]
in-without e n (x ∷ xs) h = in_without_at (nat_eq x.seq n) e x n xs refl (in-without e n xs) h

stays_at : (b : Bool) (e x : Rank) (n : ℕ) (xs : List Rank) → nat_eq x.seq n ≡ b
    → nat_eq e.seq n ≡ false → (In e xs → In e (without n xs))
    → (e ≡ x) ⊎ In e xs → In e (cond (not b) (x ∷ without n xs) (without n xs))
stays_at true e x n xs is other more (inl h) = let no : true ≡ false =
    sym is ∙ subst (λ z. nat_eq z.seq n ≡ false) h other in cc
stays_at true e x n xs is other more (inr h) = more h
stays_at false e x n xs is other more (inl h) = inl h
stays_at false e x n xs is other more (inr h) = inr (more h)

pub in-without-back : (e : Rank) (n : ℕ) (xs : List Rank) → nat_eq e.seq n ≡ false → In e xs
    → In e (without n xs)
in-without-back e n [] other h = elim h [ ]
in-without-back e n (x ∷ xs) other h =
    stays_at (nat_eq x.seq n) e x n xs refl other (in-without-back e n xs other) h

pairs_without_at : (R : Rank → Rank → Type 0) (b : Bool) (x : Rank) (n : ℕ) (xs : List Rank)
    → Pairs R (x ∷ xs) → Pairs R (without n xs)
    → Pairs R (cond (not b) (x ∷ without n xs) (without n xs))
pairs_without_at R true x n xs r h = h
pairs_without_at R false x n xs r h = (λ e i. r.0 e (in-without e n xs i).0, h)

pub pairs-without : (R : Rank → Rank → Type 0) (n : ℕ) (xs : List Rank) → Pairs R xs
    → Pairs R (without n xs)
pairs-without R n [] r = tt
pairs-without R n (x ∷ xs) r =
    pairs_without_at R (nat_eq x.seq n) x n xs r (pairs-without R n xs r.1)

-- one row more

in_put_at : (a b : Bool) (e r x : Rank) (xs : List Rank) → (In e (put_row r xs) → (e ≡ r) ⊎ In e xs)
    → In e (cond a (cond b (x ∷ xs) (x ∷ put_row r xs)) (r ∷ without r.seq (x ∷ xs)))
    → (e ≡ r) ⊎ In e (x ∷ xs)
in_put_at true true e r x xs more h = inr h
in_put_at true false e r x xs more (inl h) = inr (inl h)
in_put_at true false e r x xs more (inr h) =
    elim (more h) as (λ _. (e ≡ r) ⊎ In e (x ∷ xs)) [ inl k ↦ inl k | inr k ↦ inr (inr k) ]
in_put_at false b e r x xs more (inl h) = inl h
in_put_at false b e r x xs more (inr h) = inr (in-without e r.seq (x ∷ xs) h).0

pub in-put_row : (e r : Rank) (xs : List Rank) → In e (put_row r xs) → (e ≡ r) ⊎ In e xs
in-put_row e r [] h = h
in-put_row e r (x ∷ xs) h = in_put_at (rank_lt x r) (nat_eq x.seq r.seq) e r x xs
    (in-put_row e r xs) h

itself : (n : ℕ) → nat_eq n n ≡ true
itself n = grind (arith, nat_tests)

turned : (m n : ℕ) → nat_eq m n ≡ false → nat_eq n m ≡ false
turned m n h = grind (arith, nat_tests)

decided : (b : Bool) → (b ≡ false → ⊥) → b ≡ true
decided true f = refl
decided false f = absurd (f refl)

-- all of an ascending list are at least what its first is at least
at_least_all : (r x e : Rank) (xs : List Rank) → Ascending (x ∷ xs) → rank_lt x r ≡ false
    → In e (x ∷ xs) → rank_lt e r ≡ false
at_least_all r x e xs up h (inl i) = subst (λ z. rank_lt z r ≡ false) (sym i) h
at_least_all r x e xs up h (inr i) =
    at_most_trans rank_lt ranks_ordered r x e h (weaken rank_lt ranks_ordered x e (up.0 e i))

-- and before those of other documents
before_others : (r x e : Rank) (xs : List Rank) → Ascending (x ∷ xs) → rank_lt x r ≡ false
    → In e (without r.seq (x ∷ xs)) → rank_lt r e ≡ true
before_others r x e xs up h i =
    let k = in-without e r.seq (x ∷ xs) i in
    decided (rank_lt r e) (λ n.
    let same : e ≡ r = one_rank e r (at_least_all r x e xs up h k.0) n in
    let no : true ≡ false = sym (itself r.seq) ∙ subst (λ z. nat_eq z.seq r.seq ≡ false) same k.1 in
    cc)

ascending_at : (a b : Bool) (r x : Rank) (xs : List Rank) → rank_lt x r ≡ a → Ascending (x ∷ xs)
    → Ascending (put_row r xs)
    → Ascending (cond a (cond b (x ∷ xs) (x ∷ put_row r xs)) (r ∷ without r.seq (x ∷ xs)))
ascending_at true true r x xs is up h = up
ascending_at true false r x xs is up h = (
  λ e i. elim (in-put_row e r xs i) as (λ _. rank_lt x e ≡ true)
      [ inl k ↦ subst (λ z. rank_lt x z ≡ true) (sym k) is | inr k ↦ up.0 e k ],
  h,
)
ascending_at false b r x xs is up h = (
  λ e i. before_others r x e xs up is i,
  pairs-without (λ a b. rank_lt a b ≡ true) r.seq (x ∷ xs) up,
)

pub ascending-put_row : (r : Rank) (xs : List Rank) → Ascending xs → Ascending (put_row r xs)
ascending-put_row r [] up = (λ e i. elim i [ ], tt)
ascending-put_row r (x ∷ xs) up =
    ascending_at (rank_lt x r) (nat_eq x.seq r.seq) r x xs refl up (ascending-put_row r xs up.1)

once_at : (a b : Bool) (r x : Rank) (xs : List Rank) → nat_eq x.seq r.seq ≡ b → Once (x ∷ xs)
    → Once (put_row r xs)
    → Once (cond a (cond b (x ∷ xs) (x ∷ put_row r xs)) (r ∷ without r.seq (x ∷ xs)))
once_at true true r x xs is o h = o
once_at true false r x xs is o h = (
  λ e i. elim (in-put_row e r xs i) as (λ _. nat_eq x.seq e.seq ≡ false)
      [ inl k ↦ subst (λ z. nat_eq x.seq z.seq ≡ false) (sym k) is | inr k ↦ o.0 e k ],
  h,
)
once_at false b r x xs is o h = (
  λ e i. turned e.seq r.seq (in-without e r.seq (x ∷ xs) i).1,
  pairs-without (λ a b. nat_eq a.seq b.seq ≡ false) r.seq (x ∷ xs) o,
)

pub once-put_row : (r : Rank) (xs : List Rank) → Once xs → Once (put_row r xs)
once-put_row r [] o = (λ e i. elim i [ ], tt)
once-put_row r (x ∷ xs) o = once_at (rank_lt x r) (nat_eq x.seq r.seq) r x xs refl o
    (once-put_row r xs o.1)

-- a row of the document that isn't after s
abbrev pub Stands : Rank → List Rank → Type 0
Stands s rows = (z : Rank) × In z rows × (z.seq ≡ s.seq) × (rank_lt s z ≡ false)

same_number : (m n : ℕ) → nat_eq m n ≡ true → m ≡ n
same_number m n h = grind (arith, nat_tests)

stands_more : (s x : Rank) (rows : List Rank) → Stands s rows → Stands s (x ∷ rows)
stands_more s x rows h = (h.0, inr h.1, h.2, h.3)

own_at : (a b : Bool) (r x : Rank) (xs : List Rank) → rank_lt x r ≡ a → nat_eq x.seq r.seq ≡ b
    → Stands r (put_row r xs)
    → Stands r (cond a (cond b (x ∷ xs) (x ∷ put_row r xs)) (r ∷ without r.seq (x ∷ xs)))
own_at true true r x xs is same h =
    (x, inl refl, same_number x.seq r.seq same, weaken rank_lt ranks_ordered x r is)
own_at true false r x xs is same h = stands_more r x (put_row r xs) h
own_at false b r x xs is same h = (r, inl refl, refl, at_most_itself rank_lt ranks_ordered r)

own : (r : Rank) (xs : List Rank) → Stands r (put_row r xs)
own r [] = (r, inl refl, refl, at_most_itself rank_lt ranks_ordered r)
own r (x ∷ xs) = own_at (rank_lt x r) (nat_eq x.seq r.seq) r x xs refl refl (own r xs)

kept_at : (c : Bool) (z r x : Rank) (xs : List Rank) → nat_eq z.seq r.seq ≡ c → rank_lt x r ≡ false
    → Ascending (x ∷ xs) → In z (x ∷ xs) → Stands z (r ∷ without r.seq (x ∷ xs))
kept_at true z r x xs same h up i =
    (r, inl refl, sym (same_number z.seq r.seq same), at_least_all r x z xs up h i)
kept_at false z r x xs same h up i =
    (z, inr (in-without-back z r.seq (x ∷ xs) same i), refl, at_most_itself rank_lt ranks_ordered z)

others_at : (a b : Bool) (z r x : Rank) (xs : List Rank) → rank_lt x r ≡ a → Ascending (x ∷ xs)
    → (In z xs → Stands z (put_row r xs)) → In z (x ∷ xs)
    → Stands z (cond a (cond b (x ∷ xs) (x ∷ put_row r xs)) (r ∷ without r.seq (x ∷ xs)))
others_at true true z r x xs is up more i = (z, i, refl, at_most_itself rank_lt ranks_ordered z)
others_at true false z r x xs is up more (inl i) =
    (z, inl i, refl, at_most_itself rank_lt ranks_ordered z)
others_at true false z r x xs is up more (inr i) = stands_more z x (put_row r xs) (more i)
others_at false b z r x xs is up more i = kept_at (nat_eq z.seq r.seq) z r x xs refl is up i

others : (z r : Rank) (xs : List Rank) → Ascending xs → In z xs → Stands z (put_row r xs)
others z r [] up i = elim i [ ]
others z r (x ∷ xs) up i = others_at (rank_lt x r) (nat_eq x.seq r.seq) z r x xs refl up
    (others z r xs up.1) i

stands_trans : (s z : Rank) (rows : List Rank) → z.seq ≡ s.seq → rank_lt s z ≡ false → Stands z rows
    → Stands s rows
stands_trans s z rows same h k =
    (k.0, k.1, k.2 ∙ same, at_most_trans rank_lt ranks_ordered k.0 z s k.3 h)

pub is_ranking-put_row : (r : Rank) (rows all : List Rank) → IsRanking rows all
    → IsRanking (put_row r rows) (r ∷ all)
is_ranking-put_row r rows all h = record {
  ascending = ascending-put_row r rows h.ascending;
  once = once-put_row r rows h.once;
  from = λ e i. elim (in-put_row e r rows i) as (λ _. In e (r ∷ all))
      [ inl k ↦ inl k | inr k ↦ inr (h.from e k) ];
  best = λ s i. elim i as (λ _. Stands s (put_row r rows)) [
    | inl k ↦ subst (λ z. Stands z (put_row r rows)) (sym k) (own r rows)
    | inr k ↦ let b = h.best s k in
        stands_trans s b.0 (put_row r rows) b.2 b.3 (others b.0 r rows h.ascending b.1)
  ];
}

pub is_ranking-ranked : (all : List Rank) → IsRanking (ranked all) all
is_ranking-ranked [] = record {
  ascending = tt;
  once = tt;
  from = λ r i. i;
  best =
      λ s i. elim i [ ];
}
is_ranking-ranked (r ∷ all) = is_ranking-put_row r (ranked all) all (is_ranking-ranked all)

pub ranked-same : (xs ys : List Rank) → ((r : Rank) → In r xs → In r ys)
    → ((r : Rank) → In r ys → In r xs) → ranked xs ≡ ranked ys
ranked-same xs ys f g = ranking_unique (ranked xs) (ranked ys) xs ys (is_ranking-ranked xs)
    (is_ranking-ranked ys) f g
