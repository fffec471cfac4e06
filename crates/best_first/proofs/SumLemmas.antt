-- Sums over lists: of parts, of lists in order, and of what passes a test; and members by sums.
use Rattle.std.proofs.Common.{◌≡◌, ◌<◌, ◌+◌, ℕ, Bool, true, false, not, ◌&&◌, cond}
use Rattle.std.proofs.Common.{inl, inr, filter, map, List, [], ◌∷◌, ◌++◌, length, refl, sym, ap}
use Rattle.std.proofs.Common.{◌∙◌, subst, arith, Ordering}
use Rattle.std.specs.Ordering.{is_lt}
use Rattle.std.specs.declared.cmp.Ordering.TheVariants.{Equal}
use Rattle.std.specs.Cmp.{IsTotalOrder}
use Rattle.sg_base.specs.Lists.{In}
use Rattle.sg_base.specs.Ranking.{rank_cmp, rank_cmp_total, put_in, in_order}
use Rattle.sg_base.specs.declared.rank.Rank.{Rank}
use Rattle.sg_base.proofs.Sorting.{neither_below, not_below_itself, total_of}
use Rattle.sg_base.proofs.RankLemmas.{rank_cmp_exact}
use Rattle.fst_walk.specs.Starts.{total}
use Rattle.best_first.specs.Lists.{passing}

clash : {A : Type 0} → true ≡ false → A
clash e = absurd cc

pub total-append : {X : Type 0} (f : X → ℕ) (xs ys : List X)
    → total f (xs ++ ys) ≡ total f xs + total f ys
total-append f [] ys = omega arith
total-append f (x ∷ xs) ys = let h = total-append f xs ys in omega (arith, h)

pub total-map : {X Y : Type 0} (f : Y → ℕ) (g : X → Y) (xs : List X)
    → total f (map g xs) ≡ total (λ (x : X). f (g x)) xs
total-map f g [] = refl
total-map f g (x ∷ xs) = ap (λ n. f (g x) + n) (total-map f g xs)

-- of a list in order
put_at : {X : Type 0} (R : X → X → Ordering) (f : X → ℕ) (x y : X) (ys : List X) (b : Bool)
    → total f (put_in R x ys) ≡ f x + total f ys
    → total f (cond b (y ∷ put_in R x ys) (x ∷ (y ∷ ys))) ≡ f x + (f y + total f ys)
put_at R f x y ys true h = omega (arith, h)
put_at R f x y ys false h = refl

total-put_in : {X : Type 0} (R : X → X → Ordering) (f : X → ℕ) (x : X) (ys : List X)
    → total f (put_in R x ys) ≡ f x + total f ys
total-put_in R f x [] = refl
total-put_in R f x (y ∷ ys) = put_at R f x y ys (is_lt (R y x)) (total-put_in R f x ys)

pub total-in_order : {X : Type 0} (R : X → X → Ordering) (f : X → ℕ) (xs : List X)
    → total f (in_order R xs) ≡ total f xs
total-in_order R f [] = refl
total-in_order R f (x ∷ xs) =
    total-put_in R f x (in_order R xs) ∙ ap (λ n. f x + n) (total-in_order R f xs)

-- of what passes a test
kept_at : {X : Type 0} (f : X → ℕ) (x : X) (xs : List X) (n : ℕ) (b : Bool)
    → total f xs ≡ n → total f (cond b (x ∷ xs) xs) ≡ cond b (f x) 0 + n
kept_at f x xs n true h = ap (λ m. f x + m) h
kept_at f x xs n false h = omega (arith, h)

pub total-filter : {X : Type 0} (f : X → ℕ) (p : X → Bool) (xs : List X)
    → total f (filter p xs) ≡ total (λ (x : X). cond (p x) (f x) 0) xs
total-filter f p [] = refl
total-filter f p (x ∷ xs) = kept_at f x (filter p xs) _ (p x) (total-filter f p xs)

-- counts
pub passing-total : {X : Type 0} (p : X → Bool) (xs : List X)
    → passing p xs ≡ total (λ (x : X). cond (p x) 1 0) xs
passing-total p [] = refl
passing-total p (x ∷ xs) = ap (λ n. cond (p x) 1 0 + n) (passing-total p xs)

length_at : {X : Type 0} (x : X) (xs : List X) (n : ℕ) (b : Bool) → length xs ≡ n
    → length (cond b (x ∷ xs) xs) ≡ cond b 1 0 + n
length_at x xs n true h = omega (arith, h)
length_at x xs n false h = omega (arith, h)

pub length-total : {X : Type 0} (p : X → Bool) (xs : List X)
    → length (filter p xs) ≡ total (λ (x : X). cond (p x) 1 0) xs
length-total p [] = refl
length-total p (x ∷ xs) = length_at x (filter p xs) _ (p x) (length-total p xs)

-- the same sums by the words of another list's lemmas
pub total_of-total : {X : Type 0} (R : X → X → Ordering) (t : IsTotalOrder R)
    (same : (x y : X) → R x y ≡ Equal → x ≡ y) (f : X → ℕ) (xs : List X)
    → total_of R t same f xs ≡ total f xs
total_of-total R t same f [] = refl
total_of-total R t same f (x ∷ xs) = ap (λ n. f x + n) (total_of-total R t same f xs)

-- members by sums: lists of rows with the same sums have the same members
abbrev is_it : Rank → Rank → Bool
is_it r x = not (is_lt (rank_cmp r x)) && not (is_lt (rank_cmp x r))

it_by : (a b : Bool) → a ≡ false → b ≡ false → (not a && not b) ≡ true
it_by false false e f = refl
it_by true b e f = clash e
it_by false true e f = clash f

by_it : (a b : Bool) → (not a && not b) ≡ true → (a ≡ false) × (b ≡ false)
by_it false false e = (refl, refl)
by_it true b e = clash (sym e)
by_it false true e = clash (sym e)

is_itself : (r : Rank) → is_it r r ≡ true
is_itself r =
    let n = not_below_itself rank_cmp rank_cmp_total rank_cmp_exact r in
    it_by (is_lt (rank_cmp r r)) (is_lt (rank_cmp r r)) n n

it_is : (r x : Rank) → is_it r x ≡ true → r ≡ x
it_is r x h =
    let b = by_it (is_lt (rank_cmp r x)) (is_lt (rank_cmp x r)) h in
    neither_below rank_cmp rank_cmp_total rank_cmp_exact _ r x refl b.0 b.1

abbrev ones : Rank → List Rank → ℕ
ones r = total (λ (x : Rank). cond (is_it r x) 1 0)

counted_in : (r : Rank) (xs : List Rank) → In r xs → 0 < ones r xs
counted_in r [] i = elim i [ ]
counted_in r (x ∷ xs) (inl e) =
    let h : is_it r x ≡ true = ap (is_it r) (sym e) ∙ is_itself r in
    subst (λ b. 0 < cond b 1 0 + ones r xs) (sym h) (omega arith)
counted_in r (x ∷ xs) (inr i) = let h = counted_in r xs i in omega (arith, h)

in_by : (r x : Rank) (xs : List Rank) (b : Bool) → is_it r x ≡ b → 0 < cond b 1 0 + ones r xs
    → (0 < ones r xs → In r xs) → In r (x ∷ xs)
in_by r x xs true e h f = inl (it_is r x e)
in_by r x xs false e h f = inr (f (omega (arith, h)))

in_counted : (r : Rank) (xs : List Rank) → 0 < ones r xs → In r xs
in_counted r [] h = absurd (omega (arith, h))
in_counted r (x ∷ xs) h = in_by r x xs (is_it r x) refl h (in_counted r xs)

pub summed_members : (xs ys : List Rank) → ((f : Rank → ℕ) → total f xs ≡ total f ys)
    → (r : Rank) → In r xs → In r ys
summed_members xs ys f r i =
    in_counted r ys
    (subst (λ n. 0 < n) (f (λ (x : Rank). cond (is_it r x) 1 0)) (counted_in r xs i))
