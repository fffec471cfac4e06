-- Members of mapped, joined and filtered lists, and lists of which one has no more.
use Rattle.std.proofs.Common.{◌≡◌, ◌≤◌, ◌⊎◌, inl, inr, map, Option, Some, None}
use Rattle.std.proofs.Common.{List, [], ◌∷◌, ◌++◌, length, length-append, refl, sym, ap, ◌∙◌}
use Rattle.std.proofs.Common.{subst, arith}
use Rattle.std.specs.Prelude.{filter_map, flat_map}
use Rattle.std.specs.List.{cons_option}
use Rattle.sg_base.specs.Lists.{In, Pairs}
use Rattle.sg_base.proofs.ListLemmas.{in-append}

pub map-in : {X Y : Type 0} (f : X → Y) (x : X) (xs : List X) → In x xs → In (f x) (map f xs)
map-in f x [] i = elim i [ ]
map-in f x (y ∷ xs) (inl e) = inl (ap f e)
map-in f x (y ∷ xs) (inr i) = inr (map-in f x xs i)

pub in-left : {X : Type 0} (e : X) (xs ys : List X) → In e xs → In e (xs ++ ys)
in-left e [] ys i = elim i [ ]
in-left e (x ∷ xs) ys (inl i) = inl i
in-left e (x ∷ xs) ys (inr i) = inr (in-left e xs ys i)

pub in-right : {X : Type 0} (e : X) (xs ys : List X) → In e ys → In e (xs ++ ys)
in-right e [] ys i = i
in-right e (x ∷ xs) ys i = inr (in-right e xs ys i)

-- what a function gives of the items, where it gives something
in_some_at : {X Y : Type 0} (h : X → Option Y) (o : Option Y) (e : Y) (x : X) (xs : List X)
    → h x ≡ o → (In e (filter_map h xs) → (z : X) × In z xs × (h z ≡ Some e))
    → In e (cons_option o (filter_map h xs)) → (z : X) × In z (x ∷ xs) × (h z ≡ Some e)
in_some_at h None e x xs is more i = let r = more i in (r.0, inr r.1, r.2)
in_some_at h (Some y) e x xs is more (inl i) = (x, inl refl, is ∙ ap Some (sym i))
in_some_at h (Some y) e x xs is more (inr i) = let r = more i in (r.0, inr r.1, r.2)

pub in-filter_map : {X Y : Type 0} (h : X → Option Y) (e : Y) (xs : List X)
    → In e (filter_map h xs) → (z : X) × In z xs × (h z ≡ Some e)
in-filter_map h e [] i = elim i [ ]
in-filter_map h e (x ∷ xs) i = in_some_at h (h x) e x xs refl (in-filter_map h e xs) i

some_in_at : {X Y : Type 0} (h : X → Option Y) (o : Option Y) (e : Y) (z x : X) (xs : List X)
    → h x ≡ o → h z ≡ Some e → (In z xs → In e (filter_map h xs)) → (z ≡ x) ⊎ In z xs
    → In e (cons_option o (filter_map h xs))
some_in_at h None e z x xs is has more (inl i) =
    let never : Some e ≡ None = sym has ∙ ap h i ∙ is in cc
some_in_at h None e z x xs is has more (inr i) = more i
some_in_at h (Some y) e z x xs is has more (inl i) =
    let same : Some e ≡ Some y = sym has ∙ ap h i ∙ is in inl (let t : e ≡ y = cc in t)
some_in_at h (Some y) e z x xs is has more (inr i) = inr (more i)

pub filter_map-has : {X Y : Type 0} (h : X → Option Y) (e : Y) (z : X) (xs : List X)
    → h z ≡ Some e → In z xs → In e (filter_map h xs)
filter_map-has h e z [] has i = elim i [ ]
filter_map-has h e z (x ∷ xs) has i =
    some_in_at h (h x) e z x xs refl has (filter_map-has h e z xs has) i

-- lists for each item
pub in-flat_map : {X Y : Type 0} (f : X → List Y) (e : Y) (xs : List X) → In e (flat_map f xs)
    → (z : X) × In z xs × In e (f z)
in-flat_map f e [] i = elim i [ ]
in-flat_map {X} {Y} f e (x ∷ xs) i =
    elim (in-append e (f x) (flat_map f xs) i) as (λ _. (z : X) × In z (x ∷ xs) × In e (f z)) [
      | inl j ↦ (x, inl refl, j)
      | inr j ↦ let r = in-flat_map f e xs j in (r.0, inr r.1, r.2)
    ]

pub flat_map-has : {X Y : Type 0} (f : X → List Y) (e : Y) (z : X) (xs : List X) → In z xs
    → In e (f z) → In e (flat_map f xs)
flat_map-has f e z [] i j = elim i [ ]
flat_map-has {X} {Y} f e z (x ∷ xs) (inl i) j =
    in-left e (f x) (flat_map f xs) (subst (λ w. In e (f w)) i j)
flat_map-has f e z (x ∷ xs) (inr i) j = in-right e (f x) (flat_map f xs) (flat_map-has f e z xs i j)

-- a list of which no two are equal has no more than one in which they all are
pub in-split : {X : Type 0} (x : X) (xs : List X) → In x xs
    → (us : List X) × (vs : List X) × (xs ≡ us ++ x ∷ vs)
in-split x [] i = elim i [ ]
in-split x (y ∷ xs) (inl e) = ([], xs, ap (λ z. z ∷ xs) (sym e))
in-split x (y ∷ xs) (inr i) =
    let r = in-split x xs i in (y ∷ r.0, r.1, ap (λ zs. y ∷ zs) r.2)

remove_in : {X : Type 0} (x y : X) (us vs : List X) → (y ≡ x → ⊥) → In y (us ++ x ∷ vs)
    → In y (us ++ vs)
remove_in x y us vs n i =
    elim (in-append y us (x ∷ vs) i) as (λ _. In y (us ++ vs)) [
      | inl j ↦ in-left y us vs j
      | inr j ↦ elim j as (λ _. In y (us ++ vs)) [
        | inl e ↦ absurd (n e)
        | inr k ↦ in-right y us vs k
      ]
    ]

pub fewer : {X : Type 0} (xs ys : List X) → Pairs (λ a b. a ≡ b → ⊥) xs
    → ((x : X) → In x xs → In x ys) → length xs ≤ length ys
fewer [] ys d f = omega arith
fewer (x ∷ xs) ys d f =
    let sp = in-split x ys (f x (inl refl)) in
    let h = fewer xs (sp.0 ++ sp.1) d.1 (λ y i.
    remove_in x y sp.0 sp.1 (λ e. d.0 y i (sym e)) (subst (In y) sp.2 (f y (inr i)))) in
    let l = ap length sp.2 in
    let m = length-append sp.0 (x ∷ sp.1) in
    let n = length-append sp.0 sp.1 in
    omega (arith, h, l, m, n)

-- two with the same members and no equals have as many
pub as_many : {X : Type 0} (xs ys : List X) → Pairs (λ a b. a ≡ b → ⊥) xs
    → Pairs (λ a b. a ≡ b → ⊥) ys → ((x : X) → In x xs → In x ys)
    → ((x : X) → In x ys → In x xs) → length xs ≡ length ys
as_many xs ys d e f g =
    let h = fewer xs ys d f in let k = fewer ys xs e g in omega (arith, h, k)
