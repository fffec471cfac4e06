-- Lists: members, lengths and pieces of what is put in, taken out or cut short.
use Rattle.std.proofs.Common.{◌≡◌, ◌≤◌, ◌<◌, ◌+◌, ◌⊎◌, inl, inr, ℕ, zero, suc}
use Rattle.std.proofs.Common.{List, [], ◌∷◌, ◌++◌, length}
use Rattle.std.proofs.Common.{length-append, take, drop, map, refl, sym, ap, ◌∙◌, subst, arith}
use Rattle.std.specs.Prelude.{All, slice_index_or, insert, remove}
use Rattle.sg_base.specs.Lists.{In, Pairs}
use Rattle.sg_base.proofs.ListLemmas.{in-append}

pub map-insert : {X Y : Type 0} (f : X → Y) (xs : List X) (i : ℕ) (x : X) → i ≤ length xs
    → map f (insert xs i x) ≡ insert (map f xs) i (f x)
map-insert f xs zero x h = refl
map-insert f [] (suc i) x h = absurd (omega arith)
map-insert f (y ∷ xs) (suc i) x h = ap (λ zs. f y ∷ zs) (map-insert f xs i x (omega arith))

pub map-remove : {X Y : Type 0} (f : X → Y) (xs : List X) (i : ℕ)
    → map f (remove xs i) ≡ remove (map f xs) i
map-remove f [] zero = refl
map-remove f [] (suc i) = refl
map-remove f (y ∷ xs) zero = refl
map-remove f (y ∷ xs) (suc i) = ap (λ zs. f y ∷ zs) (map-remove f xs i)

pub map-take : {X Y : Type 0} (f : X → Y) (k : ℕ) (xs : List X)
    → map f (take k xs) ≡ take k (map f xs)
map-take f zero xs = refl
map-take f (suc k) [] = refl
map-take f (suc k) (x ∷ xs) = ap (λ zs. f x ∷ zs) (map-take f k xs)

pub map-length : {X Y : Type 0} (f : X → Y) (xs : List X) → length (map f xs) ≡ length xs
map-length f [] = refl
map-length f (x ∷ xs) = ap suc (map-length f xs)

pub take-whole : {X : Type 0} (k : ℕ) (xs : List X) → length xs ≤ k → take k xs ≡ xs
take-whole zero [] h = refl
take-whole zero (x ∷ xs) h = absurd (omega arith)
take-whole (suc k) [] h = refl
take-whole (suc k) (x ∷ xs) h = ap (λ zs. x ∷ zs) (take-whole k xs (omega arith))

pub insert-length : {X : Type 0} (xs : List X) (i : ℕ) (x : X) → i ≤ length xs
    → length (insert xs i x) ≡ length xs + 1
insert-length xs zero x h = omega arith
insert-length [] (suc i) x h = absurd (omega arith)
insert-length (y ∷ xs) (suc i) x h = let k = insert-length xs i x (omega arith) in omega (arith, k)

pub map-index : {X Y : Type 0} (f : X → Y) (xs : List X) (i : ℕ) (e : X) (d : Y) → i < length xs
    → slice_index_or (map f xs) i d ≡ f (slice_index_or xs i e)
map-index f [] i e d h = absurd (omega arith)
map-index f (x ∷ xs) zero e d h = refl
map-index f (x ∷ xs) (suc i) e d h = map-index f xs i e d (omega arith)

pub bounded-full : {X : Type 0} (old new : List X) (x : X) (k i : ℕ) → i < k → length old ≡ k
    → ((front : List X) × (last : X) × (old ≡ front ++ last ∷ []) × (new ≡ insert front i x))
    → new ≡ take k (insert old i x)
bounded-full {X} old new x k i l e h =
    let n : length old ≡ length h.0 + 1 = ap length h.2 ∙ length-append h.0 (h.1 ∷ []) in
    let m = insert-length h.0 i x (omega (arith, n, l, e)) in
    let split : insert old i x ≡ insert h.0 i x ++ h.1 ∷ [] =
    ap (λ zs. insert zs i x) h.2 ∙ before_last h.0 i x h.1 (omega (arith, n, l, e)) in
    h.3 ∙ sym (ap (take k) split ∙ front_of (insert h.0 i x) (h.1 ∷ []) k (omega (arith, n, m, e)))
  where
    before_last : (front : List X) (j : ℕ) (y last : X) → j ≤ length front
        → insert (front ++ last ∷ []) j y ≡ insert front j y ++ last ∷ []
    before_last front zero y last q = refl
    before_last [] (suc j) y last q = absurd (omega arith)
    before_last (z ∷ front) (suc j) y last q =
        ap (λ zs. z ∷ zs) (before_last front j y last (omega arith))

    front_of : (xs ys : List X) (n : ℕ) → length xs ≡ n → take n (xs ++ ys) ≡ xs
    front_of [] ys zero q = refl
    front_of [] ys (suc n) q = absurd (omega arith)
    front_of (z ∷ xs) ys zero q = absurd (omega arith)
    front_of (z ∷ xs) ys (suc n) q = ap (λ zs. z ∷ zs) (front_of xs ys n (omega arith))

pub in-take : {X : Type 0} (e : X) (k : ℕ) (xs : List X) → In e (take k xs) → In e xs
in-take e zero xs i = elim i [ ]
in-take e (suc k) [] i = i
in-take e (suc k) (x ∷ xs) (inl i) = inl i
in-take e (suc k) (x ∷ xs) (inr i) = inr (in-take e k xs i)

in-drop : {X : Type 0} (e : X) (k : ℕ) (xs : List X) → In e (drop k xs) → In e xs
in-drop e zero xs i = i
in-drop e (suc k) [] i = i
in-drop e (suc k) (x ∷ xs) i = inr (in-drop e k xs i)

pub in-remove : {X : Type 0} (e : X) (k : ℕ) (xs : List X) → In e (remove xs k) → In e xs
in-remove e k xs i = elim (in-append e (take k xs) (drop (suc k) xs) i) as (λ _. In e xs)
    [ inl j ↦ in-take e k xs j | inr j ↦ in-drop e (suc k) xs j ]

pub in-insert : {X : Type 0} (e h : X) (k : ℕ) (xs : List X) → In e (insert xs k h)
    → (e ≡ h) ⊎ In e xs
in-insert e h k xs i =
    elim (in-append e (take k xs) (h ∷ drop k xs) i) as (λ _. (e ≡ h) ⊎ In e xs) [
      | inl j ↦ inr (in-take e k xs j)
      | inr j ↦ elim j as (λ _. (e ≡ h) ⊎ In e xs)
          [ inl l ↦ inl l | inr l ↦ inr (in-drop e k xs l) ]
    ]

pub index-in : {X : Type 0} (xs : List X) (k : ℕ) (d : X) → k < length xs
    → In (slice_index_or xs k d) xs
index-in [] k d h = absurd (omega arith)
index-in (x ∷ xs) zero d h = inl refl
index-in (x ∷ xs) (suc k) d h = inr (index-in xs k d (omega arith))

pub all-member : {X : Type 0} (P : X → Type 0) (e : X) (xs : List X)
    → ((k : ℕ) (d : X) → k < length xs → P (slice_index_or xs k d)) → In e xs → P e
all-member P e [] f i = elim i [ ]
all-member P e (x ∷ xs) f (inl i) = subst P (sym i) (f 0 x (omega arith))
all-member P e (x ∷ xs) f (inr i) = all-member P e xs (λ k d h. f (suc k) d (omega (arith, h))) i

pub all-put : {X : Type 0} (P : X → Type 0) (h : X) (xs new : List X) → All P xs → P h
    → ((e : X) → In e new → (e ≡ h) ⊎ In e xs) → All P new
all-put {X} P h xs new f p members k d l =
    elim (members (slice_index_or new k d) (index-in new k d l)) as
    (λ _. P (slice_index_or new k d)) [
      | inl e ↦ subst P (sym e) p
      | inr i ↦ all-member P (slice_index_or new k d) xs f i
    ]

pub pairs-take : {X : Type 0} (R : X → X → Type 0) (k : ℕ) (xs : List X) → Pairs R xs
    → Pairs R (take k xs)
pairs-take R zero xs p = tt
pairs-take R (suc k) [] p = p
pairs-take R (suc k) (x ∷ xs) p = (λ y i. p.0 y (in-take y k xs i), pairs-take R k xs p.1)

pub all-take : {X : Type 0} (P : X → Type 0) (n : ℕ) (xs : List X) → All P xs → All P (take n xs)
all-take P n xs f k d l = all-member P (slice_index_or (take n xs) k d) xs f
    (in-take (slice_index_or (take n xs) k d) n xs (index-in (take n xs) k d l))
