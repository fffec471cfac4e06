-- Keeping the first k while rows come: one row more needs the first k alone.
use Rattle.std.proofs.Common.{◌≡◌, ℕ, zero, suc, Bool, true, false, cond, nat_eq}
use Rattle.std.proofs.Common.{not, List, [], ◌∷◌, take, refl, sym, ap, ◌∙◌}
use Rattle.std.proofs.Common.{arith, inl, inr}
use Rattle.std.specs.Ordering.{is_lt}
use Rattle.std.specs.List.{AllByRecursion}
use Rattle.std.proofs.lemmas.Bool.Decides.{nat_tests}
use Rattle.sg_base.specs.declared.rank.Rank.{Rank}
use Rattle.sg_base.specs.Ranking.{rank_cmp}
use Rattle.sg_base.specs.Lists.{In}
use Rattle.sg_base.proofs.RankingLemmas.{Once}
use Rattle.sg_base.specs.Rows.{put_row, without}

-- rows of other documents
abbrev pub Others : ℕ → List Rank → Type 0
Others seq xs = AllByRecursion (λ x. nat_eq x.seq seq ≡ false) xs

kept_at : (b : Bool) (x : Rank) (xs ys : List Rank) → b ≡ false → xs ≡ ys
    → cond (not b) (x ∷ xs) xs ≡ x ∷ ys
kept_at true x xs ys b e = cc
kept_at false x xs ys b e = ap (λ zs. x ∷ zs) e

pub without-others : (seq : ℕ) (xs : List Rank) → Others seq xs → without seq xs ≡ xs
without-others seq [] o = refl
without-others seq (x ∷ xs) o =
    kept_at (nat_eq x.seq seq) x (without seq xs) xs o.0 (without-others seq xs o.1)

pub Others-take : (seq k : ℕ) (xs : List Rank) → Others seq xs → Others seq (take k xs)
Others-take seq zero xs o = tt
Others-take seq (suc k) [] o = tt
Others-take seq (suc k) (x ∷ xs) o = (o.0, Others-take seq k xs o.1)

take-same : (k : ℕ) (xs : List Rank) → take k (take k xs) ≡ take k xs
take-same zero xs = refl
take-same (suc k) [] = refl
take-same (suc k) (x ∷ xs) = ap (λ zs. x ∷ zs) (take-same k xs)

turned_to : (a b n : ℕ) → nat_eq a n ≡ true → nat_eq a b ≡ false → nat_eq b n ≡ false
turned_to a b n e f = grind (arith, nat_tests)

-- behind a row of the document stand others
pub others_from : (x : Rank) (n : ℕ) (xs : List Rank) → nat_eq x.seq n ≡ true
    → ((y : Rank) → In y xs → nat_eq x.seq y.seq ≡ false) → Others n xs
others_from x n [] e f = tt
others_from x n (y ∷ ys) e f =
    (turned_to x.seq y.seq n e (f y (inl refl)), others_from x n ys e (λ z i. f z (inr i)))

take-without_at : (b : Bool) (k : ℕ) (x : Rank) (seq : ℕ) (xs : List Rank)
    → (b ≡ true → Others seq xs)
    → take k (without seq (take (suc k) xs)) ≡ take k (without seq xs)
    → take (suc k) (cond (not b) (x ∷ without seq (take (suc k) xs))
    (without seq (take (suc k) xs)))
    ≡ take (suc k) (cond (not b) (x ∷ without seq xs) (without seq xs))
take-without_at true k x seq xs o e =
    ap (take (suc k)) (without-others seq (take (suc k) xs) (Others-take seq (suc k) xs (o refl)))
    ∙ take-same (suc k) xs ∙ sym (ap (take (suc k)) (without-others seq xs (o refl)))
take-without_at false k x seq xs o e = ap (λ zs. x ∷ zs) e

pub take-without : (k : ℕ) (seq : ℕ) (xs : List Rank) → Once xs
    → take k (without seq (take (suc k) xs)) ≡ take k (without seq xs)
take-without zero seq xs o = refl
take-without (suc k) seq [] o = refl
take-without (suc k) seq (x ∷ xs) o =
    take-without_at (nat_eq x.seq seq) k x seq xs (λ e. others_from x seq xs e o.0)
    (take-without k seq xs o.1)

put_row-take_at : (a b : Bool) (k : ℕ) (r x : Rank) (xs : List Rank)
    → take k (put_row r (take k xs)) ≡ take k (put_row r xs)
    → take k (without r.seq (take (suc k) (x ∷ xs))) ≡ take k (without r.seq (x ∷ xs))
    → take (suc k) (cond a (cond b (x ∷ take k xs) (x ∷ put_row r (take k xs)))
    (r ∷ without r.seq (x ∷ take k xs)))
    ≡ take (suc k) (cond a (cond b (x ∷ xs) (x ∷ put_row r xs)) (r ∷ without r.seq (x ∷ xs)))
put_row-take_at true true k r x xs e f = ap (λ zs. x ∷ zs) (take-same k xs)
put_row-take_at true false k r x xs e f = ap (λ zs. x ∷ zs) e
put_row-take_at false b k r x xs e f = ap (λ zs. r ∷ zs) f

-- what the first k are after one more row depends on the first k alone
pub put_row-take : (k : ℕ) (r : Rank) (xs : List Rank) → Once xs
    → take k (put_row r (take k xs)) ≡ take k (put_row r xs)
put_row-take zero r xs o = refl
put_row-take (suc k) r [] o = refl
put_row-take (suc k) r (x ∷ xs) o =
    put_row-take_at (is_lt (rank_cmp x r)) (nat_eq x.seq r.seq) k r x xs (put_row-take k r xs o.1)
    (take-without k r.seq (x ∷ xs) o)
