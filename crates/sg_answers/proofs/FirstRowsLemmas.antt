-- The first k of a list in order: they depend on the first k of each part alone; and a test that
-- no later element passes alone commutes with taking them.
use Rattle.std.proofs.Common.{◌≡◌, ℕ, zero, suc, Bool, true, false, cond, List, [], ◌∷◌, ◌++◌}
use Rattle.std.proofs.Common.{take, refl, sym, ap, ◌∙◌, arith, Ordering}
use Rattle.std.specs.Prelude.{filter}
use Rattle.std.specs.Ordering.{is_lt}
use Rattle.std.specs.declared.cmp.Ordering.TheVariants.{Equal}
use Rattle.std.specs.Cmp.{IsTotalOrder, IsStrictWeakOrder}
use Rattle.std.proofs.lemmas.List.{append-nil}
use Rattle.std.proofs.lemmas.List.MinMax.{ranks_by}
use Rattle.sg_base.specs.Ranking.{put_in, in_order}
use Rattle.sg_base.proofs.Sorting.{NoneBelow, Rises, rises-in_order, neither_below}
use Rattle.sg_answers.proofs.TakingLemmas.{take_shorter}

module _ {X : Type 0} (R : X → X → Ordering) (total : IsTotalOrder R)
    (same : (x y : X) → R x y ≡ Equal → x ≡ y) where
  strict : IsStrictWeakOrder (λ x y. is_lt (R x y))
  strict = ranks_by total (λ (x : X). x)

  -- ---- the first k in order

  take-put_at : (b : Bool) (k : ℕ) (x y : X) (ys : List X)
      → take k (put_in R x (take k ys)) ≡ take k (put_in R x ys)
      → take k (y ∷ take k ys) ≡ take k (y ∷ ys)
      → take (suc k) (cond b (y ∷ put_in R x (take k ys)) (x ∷ (y ∷ take k ys)))
      ≡ take (suc k) (cond b (y ∷ put_in R x ys) (x ∷ (y ∷ ys)))
  take-put_at true k x y ys e f = ap (λ zs. y ∷ zs) e
  take-put_at false k x y ys e f = ap (λ zs. x ∷ zs) f

  one_more : (k : ℕ) (y : X) (ys : List X) → take k (y ∷ take k ys) ≡ take k (y ∷ ys)
  one_more zero y ys = refl
  one_more (suc k) y ys = ap (λ zs. y ∷ zs) (take_shorter k (suc k) ys (omega arith))

  pub take-put_in : (k : ℕ) (x : X) (ys : List X)
      → take k (put_in R x (take k ys)) ≡ take k (put_in R x ys)
  take-put_in zero x ys = refl
  take-put_in (suc k) x [] = refl
  take-put_in (suc k) x (y ∷ ys) =
      take-put_at (is_lt (R y x)) k x y ys (take-put_in k x ys) (one_more k y ys)

  abbrev pub firsts : ℕ → List X → List X
  firsts k xs = take k (in_order R xs)

  firsts-cons : (k : ℕ) (x : X) (xs ys : List X) → firsts k xs ≡ firsts k ys
      → firsts k (x ∷ xs) ≡ firsts k (x ∷ ys)
  firsts-cons k x xs ys e =
      sym (take-put_in k x (in_order R xs))
      ∙ ap (λ zs. take k (put_in R x zs)) e
      ∙ take-put_in k x (in_order R ys)

  firsts-behind : (k : ℕ) (zs xs ys : List X) → firsts k xs ≡ firsts k ys
      → firsts k (zs ++ xs) ≡ firsts k (zs ++ ys)
  firsts-behind k [] xs ys e = e
  firsts-behind k (z ∷ zs) xs ys e =
      firsts-cons k z (zs ++ xs) (zs ++ ys) (firsts-behind k zs xs ys e)

  -- ---- the order of putting in doesn't matter

  -- two in front of a list
  abbrev two : Bool → X → X → List X → List X
  two b x y zs = cond b (y ∷ x ∷ zs) (x ∷ y ∷ zs)

  two_swapped : (x y : X) (zs : List X) (b c : Bool) → is_lt (R y x) ≡ b → is_lt (R x y) ≡ c
      → two (is_lt (R y x)) x y zs ≡ two (is_lt (R x y)) y x zs
  two_swapped x y zs true true p q =
      let no : true ≡ false = sym q ∙ (strict).one_way y x p in cc
  two_swapped x y zs true false p q = rw (p, q) refl
  two_swapped x y zs false true p q = rw (p, q) refl
  two_swapped x y zs false false p q =
      let one : x ≡ y = neither_below R total same (R x y) x y refl q p in
      rw (p, q) (ap (λ v. v ∷ y ∷ zs) one ∙ ap (λ v. y ∷ v ∷ zs) (sym one))

  -- what is below one of two is below the greater one
  below_greater : (x y z : X) (b : Bool) → is_lt (R x y) ≡ b → is_lt (R z y) ≡ true
      → is_lt (R z x) ≡ false → is_lt (R x y) ≡ true
  below_greater x y z true is p q = is
  below_greater x y z false is p q =
      let no : true ≡ false = sym p ∙ (strict).chain z x y q is in cc

  put_comm_at : (x y z : X) (zs : List X) (a b : Bool) → is_lt (R z y) ≡ a → is_lt (R z x) ≡ b
      → put_in R x (put_in R y zs) ≡ put_in R y (put_in R x zs)
      → put_in R x (put_in R y (z ∷ zs)) ≡ put_in R y (put_in R x (z ∷ zs))
  put_comm_at x y z zs true true p q e = rw (p, q) (rw p (ap (λ v. z ∷ v) e))
  put_comm_at x y z zs true false p q e =
      let lt : is_lt (R x y) ≡ true = below_greater x y z (is_lt (R x y)) refl p q in
      rw (p, q) (rw (p, lt) refl)
  put_comm_at x y z zs false true p q e =
      let lt : is_lt (R y x) ≡ true = below_greater y x z (is_lt (R y x)) refl q p in
      rw (p, q) (rw (p, lt) refl)
  put_comm_at x y z zs false false p q e =
      rw (p, q) (rw p (two_swapped x y (z ∷ zs) (is_lt (R y x)) (is_lt (R x y)) refl refl))

  put_comm : (x y : X) (zs : List X) → put_in R x (put_in R y zs) ≡ put_in R y (put_in R x zs)
  put_comm x y [] = two_swapped x y [] (is_lt (R y x)) (is_lt (R x y)) refl refl
  put_comm x y (z ∷ zs) =
      put_comm_at x y z zs (is_lt (R z y)) (is_lt (R z x)) refl refl (put_comm x y zs)

  in_order-middle : (x : X) (xs ys : List X)
      → in_order R (xs ++ x ∷ ys) ≡ put_in R x (in_order R (xs ++ ys))
  in_order-middle x [] ys = refl
  in_order-middle x (w ∷ xs) ys =
      ap (put_in R w) (in_order-middle x xs ys) ∙ put_comm w x (in_order R (xs ++ ys))

  pub in_order-swap : (xs ys : List X) → in_order R (xs ++ ys) ≡ in_order R (ys ++ xs)
  in_order-swap xs [] = ap (in_order R) (append-nil xs)
  in_order-swap xs (y ∷ ys) = in_order-middle y xs ys ∙ ap (put_in R y) (in_order-swap xs ys)

  pub firsts-both : (k : ℕ) (xs xs' ys ys' : List X) → firsts k xs ≡ firsts k xs'
      → firsts k ys ≡ firsts k ys' → firsts k (xs ++ ys) ≡ firsts k (xs' ++ ys')
  firsts-both k xs xs' ys ys' e f =
      firsts-behind k xs ys ys' f
      ∙ ap (take k) (in_order-swap xs ys')
      ∙ firsts-behind k ys' xs xs' e
      ∙ ap (take k) (in_order-swap ys' xs')

  -- ---- tests

  in_front : (x : X) (ys : List X) → NoneBelow R total same x ys → put_in R x ys ≡ x ∷ ys
  in_front x [] none = refl
  in_front x (y ∷ ys) none = rw none.0 refl

  -- a list that rises is in order
  pub in_order-rises : (xs : List X) → Rises R total same xs → in_order R xs ≡ xs
  in_order-rises [] up = refl
  in_order-rises (x ∷ xs) up =
      ap (put_in R x) (in_order-rises xs up.1) ∙ in_front x xs up.0

  none_below_more : (x y : X) (zs : List X) → is_lt (R y x) ≡ false
      → NoneBelow R total same y zs → NoneBelow R total same x zs
  none_below_more x y [] p q = tt
  none_below_more x y (z ∷ zs) p q = (strict.chain z y x q.0 p, none_below_more x y zs p q.1)

  none_below-filter : (p : X → Bool) (x : X) (ys : List X) → NoneBelow R total same x ys
      → NoneBelow R total same x (filter p ys)
  none_below-filter p x [] none = tt
  none_below-filter p x (y ∷ ys) none =
      by_cases (p y) none.0 (none_below-filter p x ys none.1)
    where
      by_cases : (b : Bool) → is_lt (R y x) ≡ false → NoneBelow R total same x (filter p ys)
          → NoneBelow R total same x (cond b (y ∷ filter p ys) (filter p ys))
      by_cases true here later = (here, later)
      by_cases false here later = later

  pub rises-filter : (p : X → Bool) (xs : List X) → Rises R total same xs
      → Rises R total same (filter p xs)
  rises-filter p [] up = tt
  rises-filter p (x ∷ xs) up =
      by_cases (p x) (none_below-filter p x xs up.0) (rises-filter p xs up.1)
    where
      by_cases : (b : Bool) → NoneBelow R total same x (filter p xs)
          → Rises R total same (filter p xs)
          → Rises R total same (cond b (x ∷ filter p xs) (filter p xs))
      by_cases true none later = (none, later)
      by_cases false none later = later

  none_below-take : (k : ℕ) (x : X) (ys : List X) → NoneBelow R total same x ys
      → NoneBelow R total same x (take k ys)
  none_below-take zero x ys none = tt
  none_below-take (suc k) x [] none = tt
  none_below-take (suc k) x (y ∷ ys) none = (none.0, none_below-take k x ys none.1)

  pub rises-take : (k : ℕ) (xs : List X) → Rises R total same xs → Rises R total same (take k xs)
  rises-take zero xs up = tt
  rises-take (suc k) [] up = tt
  rises-take (suc k) (x ∷ xs) up = (none_below-take k x xs up.0, rises-take k xs up.1)

  filter-put_at : (p : X → Bool) (x y : X) (ys : List X) (a b c : Bool) → p x ≡ a → p y ≡ b
      → is_lt (R y x) ≡ c → NoneBelow R total same y ys
      → filter p (put_in R x ys) ≡ cond a (put_in R x (filter p ys)) (filter p ys)
      → filter p (put_in R x (y ∷ ys))
      ≡ cond a (put_in R x (filter p (y ∷ ys))) (filter p (y ∷ ys))
  filter-put_at p x y ys true true true px py lt none e =
      rw (lt, py) (rw lt (ap (λ zs. y ∷ zs) e))
  filter-put_at p x y ys true false true px py lt none e = rw (lt, py) e
  filter-put_at p x y ys true true false px py lt none e = rw (lt, py) (rw (px, lt) refl)
  filter-put_at p x y ys true false false px py lt none e =
      rw (lt, py) (rw px (sym (in_front x (filter p ys)
      (none_below-filter p x ys (none_below_more x y ys lt none)))))
  filter-put_at p x y ys false true true px py lt none e = rw (lt, py) (ap (λ zs. y ∷ zs) e)
  filter-put_at p x y ys false false true px py lt none e = rw (lt, py) e
  filter-put_at p x y ys false b false px py lt none e = rw lt (rw px refl)

  filter-put_in : (p : X → Bool) (x : X) (ys : List X) → Rises R total same ys
      → filter p (put_in R x ys) ≡ cond (p x) (put_in R x (filter p ys)) (filter p ys)
  filter-put_in p x [] up = refl
  filter-put_in p x (y ∷ ys) up =
      filter-put_at p x y ys (p x) (p y) (is_lt (R y x)) refl refl refl up.0
      (filter-put_in p x ys up.1)

  -- what passes a test stays in order
  pub filter-in_order : (p : X → Bool) (xs : List X)
      → filter p (in_order R xs) ≡ in_order R (filter p xs)
  filter-in_order p [] = refl
  filter-in_order p (x ∷ xs) =
      filter-put_in p x (in_order R xs) (rises-in_order R total same xs)
      ∙ by_cases (p x) (filter-in_order p xs)
    where
      by_cases : (b : Bool) → filter p (in_order R xs) ≡ in_order R (filter p xs)
          → cond b (put_in R x (filter p (in_order R xs))) (filter p (in_order R xs))
          ≡ in_order R (cond b (x ∷ filter p xs) (filter p xs))
      by_cases true e = ap (put_in R x) e
      by_cases false e = e

  -- what stands before one that passes passes too
  abbrev pub IsDownward : (X → Bool) → Type 0
  IsDownward p = (x y : X) → is_lt (R y x) ≡ false → p y ≡ true → p x ≡ true

  none_later : (p : X → Bool) → IsDownward p → (x : X) (ys : List X) → p x ≡ false
      → NoneBelow R total same x ys → filter p ys ≡ []
  none_later p down x [] px none = refl
  none_later p down x (y ∷ ys) px none =
      by_cases (p y) refl (none_later p down x ys px none.1)
    where
      by_cases : (b : Bool) → p y ≡ b → filter p ys ≡ []
          → cond b (y ∷ filter p ys) (filter p ys) ≡ []
      by_cases true py e = let no : p x ≡ true = down x y none.0 py in cc
      by_cases false py e = e

  -- such a test commutes with taking the first k
  pub filter-take : (p : X → Bool) → IsDownward p → (k : ℕ) (xs : List X)
      → Rises R total same xs → filter p (take k xs) ≡ take k (filter p xs)
  filter-take p down zero xs up = refl
  filter-take p down (suc k) [] up = refl
  filter-take p down (suc k) (x ∷ xs) up =
      by_cases (p x) refl (filter-take p down k xs up.1)
    where
      by_cases : (b : Bool) → p x ≡ b → filter p (take k xs) ≡ take k (filter p xs)
          → cond b (x ∷ filter p (take k xs)) (filter p (take k xs))
          ≡ take (suc k) (cond b (x ∷ filter p xs) (filter p xs))
      by_cases true px e = ap (λ zs. x ∷ zs) e
      by_cases false px e =
          none_later p down x (take k xs) px (none_below-take k x xs up.0)
          ∙ sym (ap (take (suc k)) (none_later p down x xs px up.0))
