-- The first of a list in order, where only equals tie: how it is found, and what it can't be.
use Rattle.std.proofs.Common.{◌≡◌, Bool, true, false, cond, not, List, [], ◌∷◌}
use Rattle.std.proofs.Common.{◌++◌, suc, Option, Some, None, refl, sym, ap, ◌∙◌, arith, Ordering}
use Rattle.std.specs.Prelude.{filter, filter_map, slice_get, All, Any, Contains}
use Rattle.std.specs.List.{list_any}
use Rattle.std.specs.Ordering.{is_lt}
use Rattle.std.specs.declared.cmp.Ordering.TheVariants.{Equal}
use Rattle.std.specs.Cmp.{IsTotalOrder, IsStrictWeakOrder}
use Rattle.std.proofs.lemmas.List.MinMax.{ranks_by}
use Rattle.std.proofs.lemmas.List.Elements.{All-nil, All-cons, All-contains, All-weaker}
use Rattle.std.proofs.lemmas.List.Folds.{Any-from_list_any}
use Rattle.sg_base.specs.Ranking.{put_in, in_order}
use Rattle.sg_base.proofs.Sorting.{not_below_itself, neither_below}
use Rattle.sg_paths.proofs.PathLemmas.{passes}
use Rattle.sg_answers.specs.Scans.{sooner}

-- the first of what h gives of the items
abbrev pub soonest : {X Y : Type 0} → (X → X → Ordering) → (Y → Option X) → List Y → Option X
soonest R h [] = None
soonest R h (y ∷ ys) = sooner R (h y) (soonest R h ys)

-- the items over which none is kept
abbrev pub unbeaten : {Y : Type 0} → (Y → Y → Bool) → List Y → List Y
unbeaten over ys = filter (λ y. not (list_any (λ z. over z y) ys)) ys

-- what h gives of one item stands before what it gives of another that it is kept over
abbrev pub Earlier : {X Y : Type 0} → (X → X → Ordering) → (Y → Option X) → (Y → Y → Bool)
    → Type 0
Earlier {X} {Y} R h over =
    (z y : Y) → over z y ≡ true → (x : X) → h y ≡ Some x
    → (w : X) × (h z ≡ Some w) × (is_lt (R w x) ≡ true)

module _ {X : Type 0} (R : X → X → Ordering) (total : IsTotalOrder R)
    (same : (x y : X) → R x y ≡ Equal → x ≡ y) where
  strict : IsStrictWeakOrder (λ x y. is_lt (R x y))
  strict = ranks_by total (λ (x : X). x)

  below_both : (x y z : X) (b : Bool) → is_lt (R z x) ≡ b → is_lt (R z y) ≡ true
      → is_lt (R y x) ≡ true → is_lt (R z x) ≡ true
  below_both x y z true is p q = is
  below_both x y z false is p q =
      let no : true ≡ false = sym q ∙ strict.chain y z x (strict.one_way z y p) is in cc

  -- ---- of two that there may be

  pub sooner-itself : (a : Option X) → sooner R a a ≡ a
  sooner-itself None = refl
  sooner-itself (Some x) = rw (not_below_itself R total same x) refl

  comm_at : (x y : X) (b c : Bool) → is_lt (R y x) ≡ b → is_lt (R x y) ≡ c
      → cond (is_lt (R y x)) y x ≡ cond (is_lt (R x y)) x y
  comm_at x y true true p q = let no : true ≡ false = sym q ∙ strict.one_way y x p in cc
  comm_at x y true false p q = rw (p, q) refl
  comm_at x y false true p q = rw (p, q) refl
  comm_at x y false false p q = rw (p, q) (neither_below R total same (R x y) x y refl q p)

  pub sooner-comm : (a b : Option X) → sooner R a b ≡ sooner R b a
  sooner-comm None None = refl
  sooner-comm None (Some y) = refl
  sooner-comm (Some x) None = refl
  sooner-comm (Some x) (Some y) = ap Some (comm_at x y (is_lt (R y x)) (is_lt (R x y)) refl refl)

  assoc_at : (x y z : X) (b c : Bool) → is_lt (R y x) ≡ b → is_lt (R z y) ≡ c
      → sooner R (sooner R (Some x) (Some y)) (Some z)
      ≡ sooner R (Some x) (sooner R (Some y) (Some z))
  assoc_at x y z true true p q = rw (p, q, below_both x y z (is_lt (R z x)) refl q p) refl
  assoc_at x y z true false p q = rw (p, q, p) refl
  assoc_at x y z false true p q = rw (p, q) refl
  assoc_at x y z false false p q = rw (p, q, p, strict.chain z y x q p) refl

  pub sooner-assoc : (a b c : Option X) → sooner R (sooner R a b) c ≡ sooner R a (sooner R b c)
  sooner-assoc None b c = refl
  sooner-assoc (Some x) None c = refl
  sooner-assoc (Some x) (Some y) None = refl
  sooner-assoc (Some x) (Some y) (Some z) =
      assoc_at x y z (is_lt (R y x)) (is_lt (R z y)) refl refl

  -- ---- of a list

  get_at : (b : Bool) (x y : X) (xs ys : List X)
      → slice_get (cond b (y ∷ ys) (x ∷ xs)) 0 ≡ Some (cond b y x)
  get_at true x y xs ys = refl
  get_at false x y xs ys = refl

  first-put_in : (x : X) (ys : List X)
      → slice_get (put_in R x ys) 0 ≡ sooner R (Some x) (slice_get ys 0)
  first-put_in x [] = refl
  first-put_in x (y ∷ ys) = get_at (is_lt (R y x)) x y (y ∷ ys) (put_in R x ys)

  pub first-append : (xs ys : List X) → slice_get (in_order R (xs ++ ys)) 0
      ≡ sooner R (slice_get (in_order R xs) 0) (slice_get (in_order R ys) 0)
  first-append [] ys = refl
  first-append (x ∷ xs) ys =
      first-put_in x (in_order R (xs ++ ys))
      ∙ ap (sooner R (Some x)) (first-append xs ys)
      ∙ sym (sooner-assoc (Some x) (slice_get (in_order R xs) 0) (slice_get (in_order R ys) 0))
      ∙ ap (λ o. sooner R o (slice_get (in_order R ys) 0)) (sym (first-put_in x (in_order R xs)))

  soonest_at : {Y : Type 0} (h : Y → Option X) (y : Y) (ys : List Y) (o : Option X) → h y ≡ o
      → slice_get (in_order R (filter_map h ys)) 0 ≡ soonest R h ys
      → slice_get (in_order R (filter_map h (y ∷ ys))) 0 ≡ soonest R h (y ∷ ys)
  soonest_at h y ys None is e = rw is e
  soonest_at h y ys (Some x) is e =
      rw is (first-put_in x (in_order R (filter_map h ys)) ∙ ap (sooner R (Some x)) e)

  pub first-filter_map : {Y : Type 0} (h : Y → Option X) (ys : List Y)
      → slice_get (in_order R (filter_map h ys)) 0 ≡ soonest R h ys
  first-filter_map h [] = refl
  first-filter_map h (y ∷ ys) = soonest_at h y ys (h y) refl (first-filter_map h ys)

  -- taking one in that is in already
  absorbed : (a b : Option X) → sooner R (sooner R a b) a ≡ sooner R a b
  absorbed a b =
      sooner-comm (sooner R a b) a
      ∙ sym (sooner-assoc a a b)
      ∙ ap (λ o. sooner R o b) (sooner-itself a)

  absorbed_later : (a b c : Option X) → sooner R b c ≡ b → sooner R (sooner R a b) c ≡ sooner R a b
  absorbed_later a b c e = sooner-assoc a b c ∙ ap (sooner R a) e

  -- nothing that h gives stands before the first
  none_sooner : {Y : Type 0} (h : Y → Option X) (ys : List Y)
      → All (λ y. sooner R (soonest R h ys) (h y) ≡ soonest R h ys) ys
  none_sooner h [] = All-nil (λ y. sooner R (soonest R h []) (h y) ≡ soonest R h [])
  none_sooner h (y ∷ ys) =
      All-cons (λ z. sooner R (soonest R h (y ∷ ys)) (h z) ≡ soonest R h (y ∷ ys)) y ys
      (absorbed (h y) (soonest R h ys))
      (All-weaker (λ z. sooner R (soonest R h ys) (h z) ≡ soonest R h ys)
      (λ z. sooner R (soonest R h (y ∷ ys)) (h z) ≡ soonest R h (y ∷ ys))
      (λ z e. absorbed_later (h y) (soonest R h ys) (h z) e) ys (none_sooner h ys))

  -- nor does the first of a part of the items
  part_at : {Y : Type 0} (h : Y → Option X) (keep : Y → Bool) (y : Y) (ys : List Y) (b : Bool)
      → keep y ≡ b → sooner R (soonest R h ys) (soonest R h (filter keep ys)) ≡ soonest R h ys
      → sooner R (soonest R h (y ∷ ys)) (soonest R h (filter keep (y ∷ ys))) ≡ soonest R h (y ∷ ys)
  part_at h keep y ys true is e =
      let all = soonest R h ys in
      let part = soonest R h (filter keep ys) in
      rw is (sym (sooner-assoc (sooner R (h y) all) (h y) part)
      ∙ ap (λ o. sooner R o part) (absorbed (h y) all)
      ∙ absorbed_later (h y) all part e)
  part_at h keep y ys false is e =
      rw is (absorbed_later (h y) (soonest R h ys) (soonest R h (filter keep ys)) e)

  none_sooner_in_part : {Y : Type 0} (h : Y → Option X) (keep : Y → Bool) (ys : List Y)
      → sooner R (soonest R h ys) (soonest R h (filter keep ys)) ≡ soonest R h ys
  none_sooner_in_part h keep [] = refl
  none_sooner_in_part h keep (y ∷ ys) =
      part_at h keep y ys (keep y) refl (none_sooner_in_part h keep ys)

  -- it is what h gives of one of the items
  any_later : {Y : Type 0} (P : Y → Type 0) (y : Y) (ys : List Y) → Any P ys → Any P (y ∷ ys)
  any_later P y ys (k, z, within, at, holds) = (suc k, z, omega (arith, within), at, holds)

  reached_at : {Y : Type 0} (h : Y → Option X) (y : Y) (ys : List Y) (a b : Option X) (x : X)
      → h y ≡ a → ((z : X) → b ≡ Some z → Any (λ w. h w ≡ Some z) ys) → sooner R a b ≡ Some x
      → Any (λ w. h w ≡ Some x) (y ∷ ys)
  reached_at h y ys None b x p later e = any_later (λ w. h w ≡ Some x) y ys (later x e)
  reached_at h y ys (Some v) None x p later e = (0, y, omega arith, refl, p ∙ e)
  reached_at h y ys (Some v) (Some w) x p later e = by_cases (is_lt (R w v)) e
    where
      by_cases : (b : Bool) → Some (cond b w v) ≡ Some x → Any (λ z. h z ≡ Some x) (y ∷ ys)
      by_cases true is = any_later (λ z. h z ≡ Some x) y ys (later x is)
      by_cases false is = (0, y, omega arith, refl, p ∙ is)

  reached : {Y : Type 0} (h : Y → Option X) (ys : List Y) (x : X) → soonest R h ys ≡ Some x
      → Any (λ y. h y ≡ Some x) ys
  reached h [] x e = absurd (let no : None ≡ Some x = e in cc)
  reached h (y ∷ ys) x e =
      reached_at h y ys (h y) (soonest R h ys) x refl (λ z. reached h ys z) e

  -- ---- where one item is kept over another

  -- what stands before the first would be the first
  not_before : (w x : X) → is_lt (R w x) ≡ true → sooner R (Some x) (Some w) ≡ Some x → ⊥
  not_before w x before first =
      let taken : Some w ≡ Some x = rw before at first in
      let e : w ≡ x = cc in
      let no : true ≡ false =
      sym before ∙ (ap (λ v. is_lt (R v x)) e ∙ not_below_itself R total same x) in
      cc

  -- so an item over which another is kept doesn't come first
  not_beaten : {Y : Type 0} (h : Y → Option X) (over : Y → Y → Bool) → Earlier R h over
      → (ys : List Y) (x : X) (y : Y) → soonest R h ys ≡ Some x → h y ≡ Some x
      → Any (λ z. over z y ≡ true) ys → ⊥
  not_beaten {Y} h over earlier ys x y first is (k, z, within, at, kept) =
      let before = earlier z y kept x is in
      let none : sooner R (soonest R h ys) (h z) ≡ soonest R h ys =
      All-contains (λ v. sooner R (soonest R h ys) (h v) ≡ soonest R h ys) ys z (none_sooner h ys)
      (k, within, at) in
      not_before before.0 x before.2 (rw (first, before.1) at none)

  -- and the first of all is one that is kept
  kept_at : {Y : Type 0} (h : Y → Option X) (over : Y → Y → Bool) → Earlier R h over
      → (ys : List Y) (x : X) (y : Y) (b : Bool) → list_any (λ z. over z y) ys ≡ b
      → Contains ys y → soonest R h ys ≡ Some x → h y ≡ Some x
      → sooner R (soonest R h (unbeaten over ys)) (Some x) ≡ soonest R h (unbeaten over ys)
  kept_at {Y} h over earlier ys x y true beaten there first is =
      absurd (not_beaten h over earlier ys x y first is
      (Any-from_list_any (λ z. over z y) ys beaten))
  kept_at {Y} h over earlier ys x y false beaten there first is =
      let keep : Y → Bool = λ v. not (list_any (λ z. over z v) ys) in
      let stays : Contains (filter keep ys) y =
      All-contains (λ v. keep v ≡ true → Contains (filter keep ys) v) ys y (passes keep ys) there
      (ap not beaten) in
      let first_kept = soonest R h (filter keep ys) in
      let kept : sooner R first_kept (h y) ≡ first_kept =
      All-contains (λ v. sooner R first_kept (h v) ≡ first_kept) (filter keep ys) y
      (none_sooner h (filter keep ys)) stays in
      rw is at kept

  first_at : {Y : Type 0} (h : Y → Option X) (over : Y → Y → Bool) → Earlier R h over
      → (ys : List Y) (o : Option X) → soonest R h ys ≡ o → soonest R h (unbeaten over ys) ≡ o
  first_at {Y} h over earlier ys None first =
      let part = none_sooner_in_part h (λ y. not (list_any (λ z. over z y) ys)) ys in
      rw first at part
  first_at {Y} h over earlier ys (Some x) first =
      let part = none_sooner_in_part h (λ y. not (list_any (λ z. over z y) ys)) ys in
      let whole : sooner R (Some x) (soonest R h (unbeaten over ys)) ≡ Some x = rw first at part in
      let one = reached h ys x first in
      let kept = kept_at h over earlier ys x one.1 (list_any (λ z. over z one.1) ys) refl
      (one.0, one.2, one.3) first one.4 in
      sym kept ∙ sooner-comm (soonest R h (unbeaten over ys)) (Some x) ∙ whole

  -- the first of the items over which none is kept is the first of all
  pub first-unbeaten : {Y : Type 0} (h : Y → Option X) (over : Y → Y → Bool) → Earlier R h over
      → (ys : List Y) → slice_get (in_order R (filter_map h (unbeaten over ys))) 0
      ≡ slice_get (in_order R (filter_map h ys)) 0
  first-unbeaten h over earlier ys =
      first-filter_map h (unbeaten over ys)
      ∙ first_at h over earlier ys (soonest R h ys) refl
      ∙ sym (first-filter_map h ys)

  -- an item that gives the same as an earlier one may be left out
  repeat_at : {Y : Type 0} (h : Y → Option X) (again : Y → Bool) (y v : Y) (ys : List Y) (b : Bool)
      → again v ≡ b → (again v ≡ true → h v ≡ h y)
      → sooner R (h y) (soonest R h (filter (λ z. not (again z)) ys))
      ≡ sooner R (h y) (soonest R h ys)
      → sooner R (h y) (soonest R h (filter (λ z. not (again z)) (v ∷ ys)))
      ≡ sooner R (h y) (soonest R h (v ∷ ys))
  repeat_at h again y v ys true is gives later =
      rw (is, gives is) (later
      ∙ (ap (λ o. sooner R o (soonest R h ys)) (sym (sooner-itself (h y)))
      ∙ sooner-assoc (h y) (h y) (soonest R h ys)))
  repeat_at h again y v ys false is gives later =
      let rest = soonest R h (filter (λ z. not (again z)) ys) in
      let swapped : (o : Option X)
      → sooner R (h y) (sooner R (h v) o) ≡ sooner R (h v) (sooner R (h y) o) =
      λ o. sym (sooner-assoc (h y) (h v) o)
      ∙ (ap (λ a. sooner R a o) (sooner-comm (h y) (h v)) ∙ sooner-assoc (h v) (h y) o) in
      rw is (swapped rest ∙ (ap (sooner R (h v)) later ∙ sym (swapped (soonest R h ys))))

  pub soonest-repeat : {Y : Type 0} (h : Y → Option X) (again : Y → Bool) (y : Y)
      → ((v : Y) → again v ≡ true → h v ≡ h y) → (ys : List Y)
      → sooner R (h y) (soonest R h (filter (λ z. not (again z)) ys))
      ≡ sooner R (h y) (soonest R h ys)
  soonest-repeat h again y gives [] = refl
  soonest-repeat h again y gives (v ∷ ys) =
      repeat_at h again y v ys (again v) refl (gives v) (soonest-repeat h again y gives ys)
