-- Members of lists, and pairs of them.
use Rattle.std.proofs.Common.{◌≡◌, Bool, true, false, cond, ◌⊎◌, inl, inr, filter, map}
use Rattle.std.proofs.Common.{List, [], ◌∷◌, ◌++◌, refl, sym, ap, ◌∙◌, subst, arith, suc}
use Rattle.std.specs.List.{AllByRecursion, AllPairs}
use Rattle.std.proofs.lemmas.List.Elements.{recursion_from_All}
use Rattle.sg_base.specs.Lists.{In, Pairs}

-- members
pub in-map : {X Y : Type 0} (f : X → Y) (y : Y) (xs : List X) → In y (map f xs)
    → (x : X) × In x xs × (y ≡ f x)
in-map f y [] i = elim i [ ]
in-map f y (x ∷ xs) (inl e) = (x, inl refl, e)
in-map f y (x ∷ xs) (inr i) = let r = in-map f y xs i in (r.0, inr r.1, r.2)

pub in-append : {X : Type 0} (e : X) (xs ys : List X) → In e (xs ++ ys) → In e xs ⊎ In e ys
in-append e [] ys i = inr i
in-append e (x ∷ xs) ys (inl i) = inl (inl i)
in-append e (x ∷ xs) ys (inr i) =
    elim (in-append e xs ys i) as (λ _. In e (x ∷ xs) ⊎ In e ys) [
      | inl k ↦ inl (inr k)
      | inr k ↦ inr k
    ]

in-filter_at : {X : Type 0} (p : X → Bool) (x y : X) (ys : List X) (b : Bool) → p y ≡ b
    → (In x (filter p ys) → In x ys × (p x ≡ true))
    → In x (cond b (y ∷ filter p ys) (filter p ys)) → In x (y ∷ ys) × (p x ≡ true)
in-filter_at p x y ys true is ih (inl e) = (inl e, ap p e ∙ is)
in-filter_at p x y ys true is ih (inr i) = let k = ih i in (inr k.0, k.1)
in-filter_at p x y ys false is ih i = let k = ih i in (inr k.0, k.1)

pub in-filter : {X : Type 0} (p : X → Bool) (x : X) (xs : List X) → In x (filter p xs)
    → In x xs × (p x ≡ true)
in-filter p x [] i = elim i [ ]
in-filter p x (y ∷ ys) i = in-filter_at p x y ys (p y) refl (in-filter p x ys) i

-- what holds of all holds of each member, and the other way round
pub each_in : {X : Type 0} (P : X → Type 0) (x : X) (xs : List X) → AllByRecursion P xs → In x xs
    → P x
each_in P x [] a i = elim i [ ]
each_in P x (y ∷ ys) a (inl e) = subst P (sym e) a.0
each_in P x (y ∷ ys) a (inr i) = each_in P x ys a.1 i

pub all_of : {X : Type 0} (P : X → Type 0) (xs : List X) → ((x : X) → In x xs → P x)
    → AllByRecursion P xs
all_of P [] f = tt
all_of P (x ∷ xs) f = (f x (inl refl), all_of P xs (λ y i. f y (inr i)))

-- pairs
pub pairs-append : {X : Type 0} (R : X → X → Type 0) (xs ys : List X) → Pairs R xs → Pairs R ys
    → ((x y : X) → In x xs → In y ys → R x y) → Pairs R (xs ++ ys)
pairs-append R [] ys p q f = q
pairs-append R (x ∷ xs) ys p q f = (
  λ y i. elim (in-append y xs ys i) as (λ _. R x y) [
    | inl j ↦ p.0 y j
    | inr j ↦ f x y (inl refl) j
  ],
  pairs-append R xs ys p.1 q (λ a b i j. f a b (inr i) j),
)

pub pairs-map : {X Y : Type 0} (f : X → Y) (R : Y → Y → Type 0) (S : X → X → Type 0) (xs : List X)
    → ((a b : X) → S a b → R (f a) (f b)) → Pairs S xs → Pairs R (map f xs)
pairs-map f R S [] g p = tt
pairs-map f R S (x ∷ xs) g p = (
  λ y i. let r = in-map f y xs i in subst (R (f x)) (sym r.2) (g x r.0 (p.0 r.0 r.1)),
  pairs-map f R S xs g p.1,
)

-- pairs by index are pairs by members
pub pairs_from : {X : Type 0} (R : X → X → Type 0) (xs : List X) → AllPairs R xs → Pairs R xs
pairs_from R [] a = tt
pairs_from R (x ∷ xs) a = (
  λ y i. each_in (R x) y xs
      (recursion_from_All (R x) xs (λ k d h. a 0 (suc k) d (omega arith) (omega (arith, h)))) i,
  pairs_from R xs (λ i j d l h. a (suc i) (suc j) d (omega (arith, l)) (omega (arith, h))),
)
