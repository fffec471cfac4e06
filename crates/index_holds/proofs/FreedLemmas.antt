-- What is freed: those of the generations given back that nothing holds are all that were held and
-- aren't any more.
use Rattle.std.proofs.Common.{◌≡◌, ◌<◌, ◌≤◌, ◌+◌, inl, inr, ℕ, suc, Bool, true, false, not}
use Rattle.std.proofs.Common.{cond, nat_eq, ◌||◌, ◌&&◌, List, [], ◌∷◌, Some}
use Rattle.std.proofs.Common.{refl, sym, ap, ◌∙◌, subst, arith}
use Rattle.std.specs.Prelude.{map, filter}
use Rattle.std.specs.List.{AllByRecursion}
use Rattle.std.specs.List.Sorted.{IsStrictlyIncreasing}
use Rattle.std.specs.Option.{IsSomeAnd}
use Rattle.std.proofs.lemmas.Bool.{cases_lt}
use Rattle.std.proofs.lemmas.Bool.Decides.{nat_tests}
use Rattle.std.proofs.lemmas.List.Elements.{recursion_from_All}
use Rattle.std.proofs.lemmas.List.Kept.{AllPairs-from_increasing}
use Rattle.index_holds.specs.declared.held.Held.{Held}
use Rattle.index_holds.specs.Entries.{AreUsed, Rise, unheld}
use Rattle.index_holds.specs.Holders.{entry_of, given_up, is_among, is_held, is_used}
use Rattle.index_holds.proofs.EntryLemmas.{Above, itself, same_number}

-- ---- numbers that rise

abbrev Up : List ℕ → Type 0
Up [] = Unit {0}
Up (x ∷ xs) = AllByRecursion (λ m. x < m) xs × Up xs

up-from_increasing : (xs : List ℕ) → IsStrictlyIncreasing xs → Up xs
up-from_increasing [] rises = tt
up-from_increasing (x ∷ xs) rises =
    let pairs = AllPairs-from_increasing (x ∷ xs) rises in (
      recursion_from_All (λ m. x < m) xs
          (λ k d within. pairs 0 (suc k) d (omega arith) (omega (arith, within))),
      up-from_increasing xs (λ k within.
          pairs (suc k) (suc (k + 1)) 0 (omega arith) (omega (arith, within))),
    )

over-generations : (n : ℕ) (hs : List Held) → Above n hs
    → AllByRecursion (λ m. n < m) (map (λ h. h.generation) hs)
over-generations n [] above = tt
over-generations n (h ∷ hs) above = (above.0, over-generations n hs above.1)

up-generations : (hs : List Held) → Rise hs → Up (map (λ h. h.generation) hs)
up-generations [] rise = tt
up-generations (h ∷ hs) rise =
    (over-generations h.generation hs rise.0, up-generations hs rise.1)

over-filter_at : (b : Bool) (n x : ℕ) (xs : List ℕ) → n < x → AllByRecursion (λ m. n < m) xs
    → AllByRecursion (λ m. n < m) (cond b (x ∷ xs) xs)
over-filter_at true n x xs first over = (first, over)
over-filter_at false n x xs first over = over

over-filter : (p : ℕ → Bool) (n : ℕ) (xs : List ℕ) → AllByRecursion (λ m. n < m) xs
    → AllByRecursion (λ m. n < m) (filter p xs)
over-filter p n [] over = tt
over-filter p n (x ∷ xs) over =
    over-filter_at (p x) n x (filter p xs) over.0 (over-filter p n xs over.1)

up-filter_at : (b : Bool) (x : ℕ) (xs : List ℕ) → AllByRecursion (λ m. x < m) xs → Up xs
    → Up (cond b (x ∷ xs) xs)
up-filter_at true x xs over up = (over, up)
up-filter_at false x xs over up = up

up-filter : (p : ℕ → Bool) (xs : List ℕ) → Up xs → Up (filter p xs)
up-filter p [] up = tt
up-filter p (x ∷ xs) up =
    up-filter_at (p x) x (filter p xs) (over-filter p x xs up.0) (up-filter p xs up.1)

under_none : (g n : ℕ) (xs : List ℕ) → g ≤ n → AllByRecursion (λ m. n < m) xs
    → is_among g xs ≡ false
under_none g n [] le over = refl
under_none g n (x ∷ xs) le over =
    let more : n < x = over.0 in
    let other : nat_eq g x ≡ false = grind (arith, nat_tests) in
    rw other (under_none g n xs le over.1)

head_among : (x : ℕ) (xs : List ℕ) → is_among x (x ∷ xs) ≡ true
head_among x xs = rw (itself x) refl

under_head : (x y : ℕ) (ys : List ℕ) → x < y → AllByRecursion (λ m. y < m) ys
    → is_among x (y ∷ ys) ≡ false
under_head x y ys less over =
    let other : nat_eq x y ≡ false = grind (arith, nat_tests) in
    rw other (under_none x y ys (omega arith) over)

true_differs : true ≡ false → ⊥
true_differs wrong = absurd cc

-- the first of one is the least of the other
same_head : (x y : ℕ) (xs ys : List ℕ) → Up (x ∷ xs) → Up (y ∷ ys)
    → ((g : ℕ) → is_among g (x ∷ xs) ≡ is_among g (y ∷ ys)) → x ≡ y
same_head x y xs ys up down same =
    elim (cases_lt x y) as (λ _. x ≡ y) [
      | inl less ↦ absurd (true_differs (sym (head_among x xs) ∙ same x
          ∙ under_head x y ys less down.0))
      | inr least ↦ elim (cases_lt y x) as (λ _. x ≡ y) [
        | inl less ↦ absurd (true_differs (sym (head_among y ys) ∙ sym (same y)
            ∙ under_head y x xs less up.0))
        | inr most ↦ omega (arith, least, most)
      ]
    ]

tail_at : (b : Bool) (x g : ℕ) (xs ys : List ℕ) → nat_eq g x ≡ b
    → AllByRecursion (λ m. x < m) xs → AllByRecursion (λ m. x < m) ys
    → (b || is_among g xs) ≡ (b || is_among g ys) → is_among g xs ≡ is_among g ys
tail_at true x g xs ys is up down same =
    let le : g ≤ x = omega (arith, same_number g x is) in
    under_none g x xs le up ∙ sym (under_none g x ys le down)
tail_at false x g xs ys is up down same = same

-- two lists that rise and have the same members are one
same_rising : (xs ys : List ℕ) → Up xs → Up ys
    → ((g : ℕ) → is_among g xs ≡ is_among g ys) → xs ≡ ys
same_rising [] [] up down same = refl
same_rising [] (y ∷ ys) up down same =
    absurd (true_differs (sym (head_among y ys) ∙ sym (same y)))
same_rising (x ∷ xs) [] up down same = absurd (true_differs (sym (head_among x xs) ∙ same x))
same_rising (x ∷ xs) (y ∷ ys) up down same =
    let first : x ≡ y = same_head x y xs ys up down same in
    let again : (g : ℕ) → is_among g (x ∷ xs) ≡ is_among g (x ∷ ys) =
    subst (λ n. (g : ℕ) → is_among g (x ∷ xs) ≡ is_among g (n ∷ ys)) (sym first) same in
    let behind = subst (λ n. AllByRecursion (λ m. n < m) ys) (sym first) down.0 in
    let rest : xs ≡ ys = same_rising xs ys up.1 down.1
    (λ g. tail_at (nat_eq g x) x g xs ys refl up.0 behind (again g)) in
    cc

-- ---- members

no_and : (b : Bool) → (b && false) ≡ false
no_and true = refl
no_and false = refl

among-filter_at : (a b : Bool) (p : ℕ → Bool) (g x : ℕ) (xs : List ℕ) → nat_eq g x ≡ a
    → p x ≡ b → is_among g (filter p xs) ≡ (is_among g xs && p g)
    → is_among g (cond b (x ∷ filter p xs) (filter p xs)) ≡ ((a || is_among g xs) && p g)
among-filter_at true true p g x xs is passes more =
    let here : p g ≡ true = ap p (same_number g x is) ∙ passes in rw (is, here) refl
among-filter_at true false p g x xs is passes more =
    let here : p g ≡ false = ap p (same_number g x is) ∙ passes in
    more ∙ ap (λ b. is_among g xs && b) here ∙ no_and (is_among g xs) ∙ sym here
among-filter_at false true p g x xs is passes more = rw is more
among-filter_at false false p g x xs is passes more = more

among-filter : (p : ℕ → Bool) (g : ℕ) (xs : List ℕ)
    → is_among g (filter p xs) ≡ (is_among g xs && p g)
among-filter p g [] = refl
among-filter p g (x ∷ xs) =
    among-filter_at (nat_eq g x) (p x) p g x xs refl refl (among-filter p g xs)

turned : (m n : ℕ) → nat_eq m n ≡ nat_eq n m
turned m n = grind (arith, nat_tests)

among-generations : (g : ℕ) (hs : List Held)
    → is_among g (map (λ h. h.generation) hs) ≡ is_held hs g
among-generations g [] = refl
among-generations g (h ∷ hs) = rw (turned g h.generation, among-generations g hs) refl

held_at : (P : Held → Type 0) (b : Bool) (g : ℕ) (h : Held) (hs : List Held)
    → (IsSomeAnd (entry_of hs g) P → is_held hs g ≡ true)
    → IsSomeAnd (cond b (Some h) (entry_of hs g)) P → (b || is_held hs g) ≡ true
held_at P true g h hs more is = refl
held_at P false g h hs more is = more is

-- what has an entry is held
pub held_of_entry : (P : Held → Type 0) (g : ℕ) (hs : List Held) → IsSomeAnd (entry_of hs g) P
    → is_held hs g ≡ true
held_of_entry P g [] is = elim is [ ]
held_of_entry P g (h ∷ hs) is =
    held_at P (nat_eq h.generation g) g h hs (held_of_entry P g hs) is

-- ---- what stays

-- those of these generations are changed
abbrev pub changed : List ℕ → (Held → Held) → Held → Held
changed gens new h = cond (is_among h.generation gens) (new h) h

either : (b : Bool) → (b || true) ≡ true
either true = refl
either false = refl

held_behind : (b : Bool) (g : ℕ) (h : Held) (hs : List Held) → is_held hs g ≡ true
    → is_held (cond b (h ∷ hs) hs) g ≡ true
held_behind true g h hs is = rw is (either (nat_eq h.generation g))
held_behind false g h hs is = is

stays_at : (b : Bool) (gens : List ℕ) (new : Held → Held) (g : ℕ) (h : Held) (hs : List Held)
    → nat_eq h.generation g ≡ b → is_among g gens ≡ false → is_used h ≡ true
    → (is_held hs g ≡ true → is_held (filter is_used (map (changed gens new) hs)) g ≡ true)
    → (b || is_held hs g) ≡ true
    → is_held (filter is_used (map (changed gens new) (h ∷ hs))) g ≡ true
stays_at true gens new g h hs is other used more held =
    let here : is_among h.generation gens ≡ false =
    ap (λ n. is_among n gens) (same_number h.generation g is) ∙ other in
    rw here (rw used (rw is refl))
stays_at false gens new g h hs is other used more held =
    held_behind (is_used (changed gens new h)) g (changed gens new h)
    (filter is_used (map (changed gens new) hs)) (more held)

-- what isn't given back stays held
stays : (gens : List ℕ) (new : Held → Held) (g : ℕ) (hs : List Held) → AreUsed hs
    → is_held hs g ≡ true → is_among g gens ≡ false
    → is_held (filter is_used (map (changed gens new) hs)) g ≡ true
stays gens new g [] used held other = absurd cc
stays gens new g (h ∷ hs) used held other =
    stays_at (nat_eq h.generation g) gens new g h hs refl other used.0
    (λ more. stays gens new g hs used.1 more other) held

meets : (a b c : Bool) → (a ≡ true → b ≡ true) → (b ≡ true → a ≡ false → c ≡ true)
    → (a && not c) ≡ (b && not c)
meets true b c held kept = rw (held refl) refl
meets false true c held kept = rw (kept refl refl) refl
meets false false c held kept = refl

-- those given back that nothing holds are those that were held and aren't any more
pub freed_exactly : (gens : List ℕ) (new : Held → Held) (old after : List Held) → Rise old
    → AreUsed old → IsStrictlyIncreasing gens
    → ((g : ℕ) → is_among g gens ≡ true → is_held old g ≡ true)
    → after ≡ filter is_used (map (changed gens new) old)
    → unheld after gens ≡ given_up old after
freed_exactly gens new old after rise used rises held is =
    let p : ℕ → Bool = λ g. not (is_held after g) in
    same_rising (unheld after gens) (given_up old after)
    (up-filter p gens (up-from_increasing gens rises))
    (up-filter p (map (λ h. h.generation) old) (up-generations old rise))
    (λ g. among-filter p g gens
    ∙ meets (is_among g gens) (is_held old g) (is_held after g) (held g)
    (λ there other. subst (λ hs. is_held hs g ≡ true) (sym is)
    (stays gens new g old used there other))
    ∙ sym (ap (λ b. b && p g) (among-generations g old))
    ∙ sym (among-filter p g (map (λ h. h.generation) old)))
