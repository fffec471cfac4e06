-- Entries by rising generation: what keeps them so, and what a look-up says of each of them.
use Rattle.std.proofs.Common.{◌≡◌, ◌<◌, ◌≤◌, ◌+◌, ℕ, Bool, true, false, cond}
use Rattle.std.proofs.Common.{nat_eq, nat_lt, ◌||◌, List, [], ◌∷◌, Option, Some, None}
use Rattle.std.proofs.Common.{refl, sym, subst, arith}
use Rattle.std.specs.Prelude.{map, filter, length, All, IfSome, IsTrue}
use Rattle.std.specs.List.{AllByRecursion}
use Rattle.std.specs.Option.{IsSomeAnd}
use Rattle.std.proofs.lemmas.Bool.{ltb-true, ltb-false}
use Rattle.std.proofs.lemmas.Bool.Decides.{nat_tests}
use Rattle.std.proofs.lemmas.List.Elements.{All-head, All-tail, All-weaker}
use Rattle.index_holds.specs.declared.held.Held.{Held}
use Rattle.index_holds.specs.Entries.{AreUsed, EachOf, Rise}
use Rattle.index_holds.specs.Holders.{entry_of, is_among, is_held, is_used, newly_current}
use Rattle.index_holds.specs.Holders.{with_current, with_holder, HasHolder, IsCurrentAndHeld}

-- all generations are greater
abbrev pub Above : ℕ → List Held → Type 0
Above g = AllByRecursion (λ h. g < h.generation)

pub above_less : (g n : ℕ) (hs : List Held) → g ≤ n → Above n hs → Above g hs
above_less g n [] le above = tt
above_less g n (h ∷ hs) le above =
    let first : n < h.generation = above.0 in (omega arith, above_less g n hs le above.1)

-- a change that leaves generations alone

above-map : (f : Held → Held) → ((h : Held) → (f h).generation ≡ h.generation)
    → (g : ℕ) (hs : List Held) → Above g hs → Above g (map f hs)
above-map f same g [] above = tt
above-map f same g (h ∷ hs) above =
    (subst (λ n. g < n) (sym (same h)) above.0, above-map f same g hs above.1)

pub rise-map : (f : Held → Held) → ((h : Held) → (f h).generation ≡ h.generation)
    → (hs : List Held) → Rise hs → Rise (map f hs)
rise-map f same [] rise = tt
rise-map f same (h ∷ hs) rise = (
  subst (λ n. Above n (map f hs)) (sym (same h)) (above-map f same h.generation hs rise.0),
  rise-map f same hs rise.1,
)

pub generation-changed : (b : Bool) (new h : Held) → new.generation ≡ h.generation
    → (cond b new h).generation ≡ h.generation
generation-changed true new h same = same
generation-changed false new h same = refl

-- a filter

above-filter_at : (b : Bool) (g : ℕ) (h : Held) (hs : List Held) → g < h.generation → Above g hs
    → Above g (cond b (h ∷ hs) hs)
above-filter_at true g h hs first above = (first, above)
above-filter_at false g h hs first above = above

above-filter : (p : Held → Bool) (g : ℕ) (hs : List Held) → Above g hs → Above g (filter p hs)
above-filter p g [] above = tt
above-filter p g (h ∷ hs) above =
    above-filter_at (p h) g h (filter p hs) above.0 (above-filter p g hs above.1)

rise-filter_at : (b : Bool) (h : Held) (hs : List Held) → Above h.generation hs → Rise hs
    → Rise (cond b (h ∷ hs) hs)
rise-filter_at true h hs above rise = (above, rise)
rise-filter_at false h hs above rise = rise

pub rise-filter : (p : Held → Bool) (hs : List Held) → Rise hs → Rise (filter p hs)
rise-filter p [] rise = tt
rise-filter p (h ∷ hs) rise =
    rise-filter_at (p h) h (filter p hs) (above-filter p h.generation hs rise.0)
    (rise-filter p hs rise.1)

used-filter_at : (b : Bool) (h : Held) (hs : List Held) → is_used h ≡ b → AreUsed hs
    → AreUsed (cond b (h ∷ hs) hs)
used-filter_at true h hs is used = (is, used)
used-filter_at false h hs is used = used

pub used-filter : (hs : List Held) → AreUsed (filter is_used hs)
used-filter [] = tt
used-filter (h ∷ hs) = used-filter_at (is_used h) h (filter is_used hs) refl (used-filter hs)

-- a generation more

above-put_at : (b : Bool) (n g : ℕ) (h : Held) (hs later : List Held) → n < g → n < h.generation
    → Above n hs → Above n later → Above n (cond b (h ∷ later) (newly_current g ∷ (h ∷ hs)))
above-put_at true n g h hs later new first above more = (first, more)
above-put_at false n g h hs later new first above more = (new, (first, above))

above-with_current : (n g : ℕ) (hs : List Held) → n < g → Above n hs → Above n (with_current g hs)
above-with_current n g [] new above = (new, tt)
above-with_current n g (h ∷ hs) new above =
    above-put_at (nat_lt h.generation g) n g h hs (with_current g hs) new above.0 above.1
    (above-with_current n g hs new above.1)

first_differs : (b c : Bool) → (b || c) ≡ false → b ≡ false
first_differs true c is = is
first_differs false c is = refl

rest_differs : (b c : Bool) → (b || c) ≡ false → c ≡ false
rest_differs true c is = absurd cc
rest_differs false c is = is

not_same : (m n : ℕ) → nat_eq m n ≡ false → m ≡ n → ⊥
not_same m n differs same = grind (arith, nat_tests)

rise-put_at : (b : Bool) (g : ℕ) (h : Held) (hs : List Held) → nat_lt h.generation g ≡ b
    → nat_eq h.generation g ≡ false → Above h.generation hs → Rise hs → Rise (with_current g hs)
    → Rise (cond b (h ∷ with_current g hs) (newly_current g ∷ (h ∷ hs)))
rise-put_at true g h hs is differs above rise more =
    (above-with_current h.generation g hs (ltb-true h.generation g is) above, more)
rise-put_at false g h hs is differs above rise more =
    let least : g ≤ h.generation = ltb-false h.generation g is in
    let less : g < h.generation = omega (arith, least, not_same h.generation g differs) in
    ((less, above_less g h.generation hs least above), (above, rise))

pub rise-with_current : (g : ℕ) (hs : List Held) → is_held hs g ≡ false → Rise hs
    → Rise (with_current g hs)
rise-with_current g [] new rise = (tt, tt)
rise-with_current g (h ∷ hs) new rise =
    let one = nat_eq h.generation g in
    rise-put_at (nat_lt h.generation g) g h hs refl (first_differs one (is_held hs g) new) rise.0
    rise.1 (rise-with_current g hs (rest_differs one (is_held hs g) new) rise.1)

used-put_at : (b : Bool) (g : ℕ) (h : Held) (hs later : List Held) → is_used h ≡ true → AreUsed hs
    → AreUsed later → AreUsed (cond b (h ∷ later) (newly_current g ∷ (h ∷ hs)))
used-put_at true g h hs later first used more = (first, more)
used-put_at false g h hs later first used more = (refl, (first, used))

pub used-with_current : (g : ℕ) (hs : List Held) → AreUsed hs → AreUsed (with_current g hs)
used-with_current g [] used = (refl, tt)
used-with_current g (h ∷ hs) used =
    used-put_at (nat_lt h.generation g) g h hs (with_current g hs) used.0 used.1
    (used-with_current g hs used.1)

-- holders more

one_more : (b : Bool) (n : ℕ) → (b || nat_lt 0 (n + 1)) ≡ true
one_more true n = refl
one_more false n = grind (arith, nat_tests)

used-held_at : (b : Bool) (h : Held) → is_used h ≡ true
    → is_used (cond b (record h { holders = h.holders + 1 }) h) ≡ true
used-held_at true h used = one_more h.current h.holders
used-held_at false h used = used

pub used-with_holder : (gens : List ℕ) (hs : List Held) → AreUsed hs
    → AreUsed (map (with_holder gens) hs)
used-with_holder gens [] used = tt
used-with_holder gens (h ∷ hs) used =
    (used-held_at (is_among h.generation gens) h used.0, used-with_holder gens hs used.1)

-- what is so of the entry of each generation is so of each of their entries

abbrev Found : (Held → Type 0) → List ℕ → List Held → Type 0
Found P gens hs = (g : ℕ) → is_among g gens ≡ true → IfSome (entry_of hs g) P

pub same_number : (m n : ℕ) → nat_eq m n ≡ true → m ≡ n
same_number m n same = grind (arith, nat_tests)

pub itself : (n : ℕ) → nat_eq n n ≡ true
itself n = grind (arith, nat_tests)

if_some : (P : Held → Type 0) (o : Option Held) → IsSomeAnd o P → IfSome o P
if_some P (Some h) is = is
if_some P None is = tt

among_at : (Q : ℕ → Type 0) (b : Bool) (g n : ℕ) (gens : List ℕ) → nat_eq g n ≡ b → Q n
    → (is_among g gens ≡ true → Q g) → (b || is_among g gens) ≡ true → Q g
among_at Q true g n gens is first more among = subst Q (sym (same_number g n is)) first
among_at Q false g n gens is first more among = more among

-- what is so of all is so of each
pub all_among : (Q : ℕ → Type 0) (gens : List ℕ) (g : ℕ) → All Q gens → is_among g gens ≡ true
    → Q g
all_among Q [] g all among = absurd cc
all_among Q (n ∷ gens) g all among =
    among_at Q (nat_eq g n) g n gens refl (All-head Q n gens all)
    (all_among Q gens g (All-tail Q n gens all)) among

found : (P : Held → Type 0) (gens : List ℕ) (hs : List Held)
    → All (λ g. IsSomeAnd (entry_of hs g) P) gens → Found P gens hs
found P gens hs all g among =
    if_some P (entry_of hs g) (all_among (λ n. IsSomeAnd (entry_of hs n) P) gens g all among)

absent : (g : ℕ) (hs : List Held) → Above g hs → entry_of hs g ≡ None
absent g [] above = refl
absent g (h ∷ hs) above =
    let less : g < h.generation = above.0 in
    let other : nat_eq h.generation g ≡ false = grind (arith, nat_tests) in
    rw other (absent g hs above.1)

behind_at : (P : Held → Type 0) (b : Bool) (g : ℕ) (h : Held) (hs : List Held)
    → nat_eq h.generation g ≡ b → Above h.generation hs
    → IfSome (cond b (Some h) (entry_of hs g)) P → IfSome (entry_of hs g) P
behind_at P true g h hs is above first =
    let none : entry_of hs g ≡ None =
    absent g hs (subst (λ n. Above n hs) (same_number h.generation g is) above) in
    subst (λ o. IfSome o P) (sym none) tt
behind_at P false g h hs is above first = first

first_found : (P : Held → Type 0) (h : Held) (hs : List Held)
    → IfSome (entry_of (h ∷ hs) h.generation) P → P h
first_found P h hs is =
    subst (λ b. IfSome (cond b (Some h) (entry_of hs h.generation)) P) (itself h.generation) is

each_found : (P : Held → Type 0) (gens : List ℕ) (hs : List Held) → Rise hs → Found P gens hs
    → EachOf gens P hs
each_found P gens [] rise is = tt
each_found P gens (h ∷ hs) rise is = (
  λ among. first_found P h hs (is h.generation among),
  each_found P gens hs rise.1 (λ g among.
      behind_at P (nat_eq h.generation g) g h hs refl rise.0 (is g among)),
)

pub each_of : (P : Held → Type 0) (gens : List ℕ) (hs : List Held) → Rise hs
    → All (λ g. IsSomeAnd (entry_of hs g) P) gens → EachOf gens P hs
each_of P gens hs rise all = each_found P gens hs rise (found P gens hs all)

has_holder_at : (o : Option Held) → IsSomeAnd o (λ h. IsTrue h.current × (0 < h.holders))
    → IsSomeAnd o (λ h. 0 < h.holders)
has_holder_at (Some h) is = is.1
has_holder_at None is = is

pub have_holders : (hs : List Held) (gens : List ℕ) → All (IsCurrentAndHeld hs) gens
    → All (HasHolder hs) gens
have_holders hs gens all =
    All-weaker (IsCurrentAndHeld hs) (HasHolder hs) (λ g is. has_holder_at (entry_of hs g) is) gens
    all

shorter_at : (b : Bool) (h : Held) (new old : List Held) → length new ≤ length old
    → length (cond b (h ∷ new) new) ≤ length (h ∷ old)
shorter_at true h new old less = omega (arith, less)
shorter_at false h new old less = omega (arith, less)

pub shorter : (p : Held → Bool) (hs : List Held) → length (filter p hs) ≤ length hs
shorter p [] = omega arith
shorter p (h ∷ hs) = shorter_at (p h) h (filter p hs) hs (shorter p hs)
