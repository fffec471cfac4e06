-- Entries that say of each generation whether it is in use and how many hold it, as these change.
use Rattle.std.proofs.Common.{◌≡◌, ◌≤◌, ◌<◌, ◌+◌, ℕ, Bool, true, false, cond}
use Rattle.std.proofs.Common.{nat_eq, ◌&&◌, ◌||◌, List, [], ◌∷◌, map, refl, sym, ap}
use Rattle.std.proofs.Common.{◌∙◌, arith, Some}
use Rattle.std.specs.Prelude.{filter, nat_lt}
use Rattle.std.specs.List.{AllByRecursion}
use Rattle.std.specs.Option.{IsSomeAnd}
use Rattle.std.proofs.lemmas.Bool.Decides.{nat_tests}
use Rattle.index_holds.specs.declared.held.Held.{Held}
use Rattle.index_holds.specs.Entries.{Rise}
use Rattle.index_holds.specs.Holders.{is_held, is_used, entry_of, with_current, newly_current}
use Rattle.index_core.specs.Histories.{is_among}
use Rattle.index_core.specs.HeldGenerations.{RisesFrom}
use Rattle.index_core.proofs.RisingLemmas.{same_number}

-- whether a generation is in use or held
abbrev pub is_kept : (ℕ → Bool) → (ℕ → ℕ) → ℕ → Bool
is_kept in_use count g = in_use g || nat_lt 0 (count g)

-- an entry says of its generation whether it is in use, and how many hold it
pub record IsCounted (in_use : ℕ → Bool) (count : ℕ → ℕ) (h : Held) : Type 0 where
  pub current_is : h.current ≡ in_use h.generation
  pub holders_is : h.holders ≡ count h.generation

-- the entries are those of the generations that are in use or held
pub record AreCounted (in_use : ℕ → Bool) (count : ℕ → ℕ) (hs : List Held) : Type 0 where
  pub each : AllByRecursion (IsCounted in_use count) hs
  pub kept : (g : ℕ) → is_held hs g ≡ is_kept in_use count g

used_is : (in_use : ℕ → Bool) (count : ℕ → ℕ) (h : Held) → IsCounted in_use count h
    → is_used h ≡ is_kept in_use count h.generation
used_is in_use count h is =
    ap (λ (b : Bool). b || nat_lt 0 h.holders) is.current_is
    ∙ ap (λ (n : ℕ). in_use h.generation || nat_lt 0 n) is.holders_is

-- ---- changed entries

module _ (in_use in_use' : ℕ → Bool) (count count' : ℕ → ℕ) (new : Held → Held)
    (stays : (h : Held) → (new h).generation ≡ h.generation)
    (changes : (h : Held) → IsCounted in_use count h → IsCounted in_use' count' (new h)) where
  each_changed : (hs : List Held) → AllByRecursion (IsCounted in_use count) hs
      → AllByRecursion (IsCounted in_use' count') (map new hs)
  each_changed [] all = tt
  each_changed (h ∷ hs) all = (changes h all.0, each_changed hs all.1)

  held_changed : (g : ℕ) (hs : List Held) → is_held (map new hs) g ≡ is_held hs g
  held_changed g [] = refl
  held_changed g (h ∷ hs) =
      ap (λ (n : ℕ). nat_eq n g || is_held (map new hs) g) (stays h)
      ∙ ap (λ (b : Bool). nat_eq h.generation g || b) (held_changed g hs)

  -- where none is given up
  pub counted_changed : (hs : List Held) → AreCounted in_use count hs
      → ((g : ℕ) → is_kept in_use' count' g ≡ is_kept in_use count g)
      → AreCounted in_use' count' (map new hs)
  counted_changed hs are same = record {
    each = each_changed hs are.each;
    kept = λ g. held_changed g hs ∙ are.kept g ∙ sym (same g);
  }

  each_used : (hs : List Held) → AllByRecursion (IsCounted in_use' count') hs
      → AllByRecursion (IsCounted in_use' count') (filter is_used hs)
  each_used [] all = tt
  each_used (h ∷ hs) all = by_test (is_used h) (each_used hs all.1)
    where
      by_test : (b : Bool) → AllByRecursion (IsCounted in_use' count') (filter is_used hs)
          → AllByRecursion (IsCounted in_use' count') (cond b (h ∷ filter is_used hs)
          (filter is_used hs))
      by_test true later = (all.0, later)
      by_test false later = later

  no_and : (b : Bool) → (b && false) ≡ false
  no_and true = refl
  no_and false = refl

  held_used_at : (b c d rest rest' : Bool) → (b ≡ true → c ≡ d) → rest ≡ (rest' && d)
      → cond c (b || rest) rest ≡ ((b || rest') && d)
  held_used_at true true d rest rest' same e = same refl
  held_used_at true false d rest rest' same e =
      let is : false ≡ d = same refl in
      e ∙ ap (λ (x : Bool). rest' && x) (sym is) ∙ no_and rest' ∙ is
  held_used_at false true d rest rest' same e = e
  held_used_at false false d rest rest' same e = e

  spread : (b : Bool) (g : ℕ) (h : Held) (hs : List Held)
      → is_held (cond b (h ∷ hs) hs) g ≡ cond b (nat_eq h.generation g || is_held hs g)
      (is_held hs g)
  spread true g h hs = refl
  spread false g h hs = refl

  -- those that nothing holds any more are gone
  held_used : (g : ℕ) (hs : List Held) → AllByRecursion (IsCounted in_use' count') hs
      → is_held (filter is_used hs) g ≡ (is_held hs g && is_kept in_use' count' g)
  held_used g [] all = refl
  held_used g (h ∷ hs) all =
      spread (is_used h) g h (filter is_used hs)
      ∙ held_used_at (nat_eq h.generation g) (is_used h) (is_kept in_use' count' g)
      (is_held (filter is_used hs) g) (is_held hs g)
      (λ here. used_is in_use' count' h all.0
      ∙ ap (is_kept in_use' count') (same_number h.generation g here))
      (held_used g hs all.1)

  both : (a b c : Bool) → c ≡ a → (b ≡ true → a ≡ true) → (c && b) ≡ b
  both true b c is h = ap (λ (x : Bool). x && b) is
  both false true c is h = let no : false ≡ true = h refl in cc
  both false false c is h = no_and c

  -- where some may be given up, and none comes
  pub counted_used : (hs : List Held) → AreCounted in_use count hs
      → ((g : ℕ) → is_kept in_use' count' g ≡ true → is_kept in_use count g ≡ true)
      → AreCounted in_use' count' (filter is_used (map new hs))
  counted_used hs are fewer = record {
    each = each_used (map new hs) (each_changed hs are.each);
    kept = λ g.
        held_used g (map new hs) (each_changed hs are.each)
        ∙ both (is_kept in_use count g) (is_kept in_use' count' g) (is_held (map new hs) g)
        (held_changed g hs ∙ are.kept g) (fewer g);
  }

-- ---- one more in use

module _ (in_use in_use' : ℕ → Bool) (count : ℕ → ℕ) (g : ℕ) (unheld : count g ≡ 0)
    (comes : (n : ℕ) → in_use' n ≡ (nat_eq g n || in_use n)) where
  true_there : (n : ℕ) → nat_eq g n ≡ true → in_use' n ≡ true
  true_there n is = comes n ∙ ap (λ (b : Bool). b || in_use n) is

  new_entry : IsCounted in_use' count (newly_current g)
  new_entry = record {
    current_is = sym (true_there g (itself g));
    holders_is = sym unheld;
  }
    where
      itself : (n : ℕ) → nat_eq n n ≡ true
      itself n = grind (arith, nat_tests)

  old_entry : (h : Held) → IsCounted in_use count h → nat_eq g h.generation ≡ false
      → IsCounted in_use' count h
  old_entry h is other = record {
    current_is = is.current_is
        ∙ sym (comes h.generation ∙ ap (λ (b : Bool). b || in_use h.generation) other);
    holders_is = is.holders_is;
  }

  turned : (m n : ℕ) → nat_eq m n ≡ nat_eq n m
  turned m n = grind (arith, nat_tests)

  either : (a b : Bool) → (a || b) ≡ false → (a ≡ false) × (b ≡ false)
  either true b e = let no : true ≡ false = e in cc
  either false b e = (refl, e)

  old_entries : (hs : List Held) → AllByRecursion (IsCounted in_use count) hs
      → is_held hs g ≡ false → AllByRecursion (IsCounted in_use' count) hs
  old_entries [] all out = tt
  old_entries (h ∷ hs) all out =
      let outs = either (nat_eq h.generation g) (is_held hs g) out in
      (old_entry h all.0 (turned g h.generation ∙ outs.0), old_entries hs all.1 outs.1)

  each_with : (hs : List Held) → AllByRecursion (IsCounted in_use' count) hs
      → AllByRecursion (IsCounted in_use' count) (with_current g hs)
  each_with [] all = (new_entry, tt)
  each_with (h ∷ hs) all = by_test (nat_lt h.generation g) (each_with hs all.1)
    where
      by_test : (b : Bool) → AllByRecursion (IsCounted in_use' count) (with_current g hs)
          → AllByRecursion (IsCounted in_use' count)
          (cond b (h ∷ with_current g hs) (newly_current g ∷ (h ∷ hs)))
      by_test true later = (all.0, later)
      by_test false later = (new_entry, all)

  held_with : (n : ℕ) (hs : List Held)
      → is_held (with_current g hs) n ≡ (nat_eq g n || is_held hs n)
  held_with n [] = refl
  held_with n (h ∷ hs) = by_test (nat_lt h.generation g) (held_with n hs)
    where
      swapped : (a b c d : Bool) → d ≡ (b || c) → (a || d) ≡ (b || (a || c))
      swapped true true c d e = refl
      swapped true false c d e = refl
      swapped false b c d e = e

      by_test : (b : Bool) → is_held (with_current g hs) n ≡ (nat_eq g n || is_held hs n)
          → is_held (cond b (h ∷ with_current g hs) (newly_current g ∷ (h ∷ hs))) n
          ≡ (nat_eq g n || (nat_eq h.generation n || is_held hs n))
      by_test true e =
          swapped (nat_eq h.generation n) (nat_eq g n) (is_held hs n)
          (is_held (with_current g hs) n) e
      by_test false e = refl

  or_assoc : (a b c : Bool) → (a || (b || c)) ≡ ((a || b) || c)
  or_assoc true b c = refl
  or_assoc false b c = refl

  pub counted_with : (hs : List Held) → AreCounted in_use count hs → is_held hs g ≡ false
      → AreCounted in_use' count (with_current g hs)
  counted_with hs are out = record {
    each = each_with hs (old_entries hs are.each out);
    kept = λ n.
        held_with n hs
        ∙ ap (λ (b : Bool). nat_eq g n || b) (are.kept n)
        ∙ or_assoc (nat_eq g n) (in_use n) (nat_lt 0 (count n))
        ∙ ap (λ (b : Bool). b || nat_lt 0 (count n)) (sym (comes n));
  }

-- ---- an entry of a generation that is held

module _ (in_use : ℕ → Bool) (count : ℕ → ℕ) (P : Held → Type 0) (g : ℕ)
    (has : (h : Held) → IsCounted in_use count h → h.generation ≡ g → P h) where
  pub entry_has : (hs : List Held) → AllByRecursion (IsCounted in_use count) hs
      → is_held hs g ≡ true → IsSomeAnd (entry_of hs g) P
  entry_has [] all is = let no : false ≡ true = is in absurd cc
  entry_has (h ∷ hs) all is =
      by_test (nat_eq h.generation g) refl (λ later. entry_has hs all.1 later) is
    where
      by_test : (b : Bool) → nat_eq h.generation g ≡ b
          → (is_held hs g ≡ true → IsSomeAnd (entry_of hs g) P) → (b || is_held hs g) ≡ true
          → IsSomeAnd (cond b (Some h) (entry_of hs g)) P
      by_test true here again there = has h all.0 (same_number h.generation g here)
      by_test false here again there = again there

-- ---- the generations of entries rise

rises-generations_at : (n : ℕ) (hs : List Held)
    → AllByRecursion (λ h. n ≤ h.generation) hs → Rise hs → RisesFrom n (map (λ h. h.generation) hs)
rises-generations_at n [] over up = tt
rises-generations_at n (h ∷ hs) over up =
    (over.0, rises-generations_at (h.generation + 1) hs (above h.generation hs up.0) up.1)
  where
    above : (m : ℕ) (xs : List Held) → AllByRecursion (λ o. m < o.generation) xs
        → AllByRecursion (λ o. m + 1 ≤ o.generation) xs
    above m [] all = tt
    above m (x ∷ xs) all = (omega (arith, all.0), above m xs all.1)

pub rises-generations : (hs : List Held) → Rise hs → RisesFrom 0 (map (λ h. h.generation) hs)
rises-generations hs up = rises-generations_at 0 hs (all hs) up
  where
    all : (xs : List Held) → AllByRecursion (λ (o : Held). 0 ≤ o.generation) xs
    all [] = tt
    all (x ∷ xs) = (omega arith, all xs)

pub among-generations : (g : ℕ) (hs : List Held)
    → is_among g (map (λ h. h.generation) hs) ≡ is_held hs g
among-generations g [] = refl
among-generations g (h ∷ hs) =
    ap (λ (b : Bool). b || is_among g (map (λ h. h.generation) hs)) (turned g h.generation)
    ∙ ap (λ (b : Bool). nat_eq h.generation g || b) (among-generations g hs)
  where
    turned : (m n : ℕ) → nat_eq m n ≡ nat_eq n m
    turned m n = grind (arith, nat_tests)
