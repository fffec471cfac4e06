-- What is held after each event that isn't the end of a view.
use Rattle.std.proofs.Common.{◌≡◌, ◌≤◌, ◌<◌, ◌+◌, ◌-◌, ℕ, suc, Bool, true, false, cond}
use Rattle.std.proofs.Common.{nat_eq, ◌||◌, List, [], ◌∷◌, length, map, refl, sym, ap}
use Rattle.std.proofs.Common.{◌∙◌, arith}
use Rattle.std.specs.Prelude.{filter, nat_lt, All, ◌^◌}
use Rattle.std.specs.List.{AllByRecursion, list_any}
use Rattle.std.proofs.lemmas.Bool.Decides.{nat_tests}
use Rattle.std.proofs.lemmas.List.Elements.{All-from_recursion}
use Rattle.index_holds.specs.declared.held.Held.{Held}
use Rattle.index_holds.specs.Holders.{with_holder, with_current}
use Rattle.index_holds.specs.Holders.{HasRoom}
use Rattle.index_core.specs.Histories.{Record, is_among}
use Rattle.index_core.specs.Records.{open_views, open_merges, is_referenced}
use Rattle.index_core.specs.HeldGenerations.{holder_count, AreHolds}
use Rattle.index_core.proofs.CountedLemmas.{is_kept, IsCounted, AreCounted, counted_changed}
use Rattle.index_core.proofs.CountedLemmas.{counted_with, entry_has}
use Rattle.index_core.proofs.HoldingLemmas.{one_if, referenced_is}
use Rattle.index_core.proofs.ReleasingLemmas.{in_use, counted, holds}
use Rattle.index_core.proofs.RisingLemmas.{itself}

-- ---- counts that agree

each_agree : (used used' : ℕ → Bool) (count count' : ℕ → ℕ) → ((g : ℕ) → used' g ≡ used g)
    → ((g : ℕ) → count' g ≡ count g) → (hs : List Held)
    → AllByRecursion (IsCounted used count) hs → AllByRecursion (IsCounted used' count') hs
each_agree used used' count count' same agree [] all = tt
each_agree used used' count count' same agree (h ∷ hs) all = (
  record {
    current_is = all.0.current_is ∙ sym (same h.generation);
    holders_is = all.0.holders_is ∙ sym (agree h.generation);
  },
  each_agree used used' count count' same agree hs all.1,
)

pub counted_agree : (used used' : ℕ → Bool) (count count' : ℕ → ℕ) → ((g : ℕ) → used' g ≡ used g)
    → ((g : ℕ) → count' g ≡ count g) → (hs : List Held) → AreCounted used count hs
    → AreCounted used' count' hs
counted_agree used used' count count' same agree hs are = record {
  each = each_agree used used' count count' same agree hs are.each;
  kept = λ g.
      are.kept g
      ∙ sym (ap (λ (b : Bool). b || nat_lt 0 (count' g)) (same g)
      ∙ ap (λ (n : ℕ). used g || nat_lt 0 n) (agree g));
}

-- an event that changes neither leaves what is held
pub holds_same : (r r' : Record) → ((g : ℕ) → in_use r' g ≡ in_use r g)
    → ((g : ℕ) → holder_count r' g ≡ holder_count r g) → (hs : List Held) → AreHolds r hs
    → AreHolds r' hs
holds_same r r' same agree hs are =
    holds r' hs (counted_agree (in_use r) (in_use r') (holder_count r) (holder_count r') same agree
    hs (counted r hs are))

-- ---- a generation more

-- what isn't referenced has no holder
pub unheld : (r : Record) (g : ℕ) → is_referenced r g ≡ false → holder_count r g ≡ 0
unheld r g out = by_test (in_use r g) (sym (referenced_is r g) ∙ out)
  where
    by_test : (b : Bool) → (b || nat_lt 0 (holder_count r g)) ≡ false → holder_count r g ≡ 0
    by_test true e = let no : true ≡ false = e in absurd cc
    by_test false e = grind (arith, nat_tests)

pub holds_current : (r r' : Record) (g : ℕ) → is_referenced r g ≡ false
    → ((n : ℕ) → in_use r' n ≡ (nat_eq g n || in_use r n))
    → ((n : ℕ) → holder_count r' n ≡ holder_count r n) → (hs : List Held) → AreHolds r hs
    → AreHolds r' (with_current g hs)
holds_current r r' g out comes agree hs are =
    let used : ℕ → Bool = λ n. nat_eq g n || in_use r n in
    holds r' (with_current g hs)
    (counted_agree used (in_use r') (holder_count r) (holder_count r') comes agree
    (with_current g hs)
    (counted_with (in_use r) used (holder_count r) g (unheld r g out) (λ n. refl) hs
    (counted r hs are) (are.held g ∙ out)))

-- ---- a holder more

module _ (r r' : Record) (gens : List ℕ) (same : (g : ℕ) → in_use r' g ≡ in_use r g)
    (more : (g : ℕ) → holder_count r' g ≡ holder_count r g + one_if (is_among g gens))
    (used : (g : ℕ) → is_among g gens ≡ true → in_use r g ≡ true) where
  same_generation : (h : Held) → (with_holder gens h).generation ≡ h.generation
  same_generation h = by_test (is_among h.generation gens)
    where
      by_test : (b : Bool) → (cond b (record h { holders = h.holders + 1 }) h).generation
          ≡ h.generation
      by_test true = refl
      by_test false = refl

  held_entry : (h : Held) → IsCounted (in_use r) (holder_count r) h
      → IsCounted (in_use r') (holder_count r') (with_holder gens h)
  held_entry h is = by_test (is_among h.generation gens) (more h.generation)
    where
      by_test : (b : Bool)
          → holder_count r' h.generation ≡ holder_count r h.generation + one_if b
          → IsCounted (in_use r') (holder_count r')
          (cond b (record h { holders = h.holders + 1 }) h)
      by_test true sum = record {
        current_is = is.current_is ∙ sym (same h.generation);
        holders_is = let own = is.holders_is in omega (arith, own, sum);
      }
      by_test false sum = record {
        current_is = is.current_is ∙ sym (same h.generation);
        holders_is = let own = is.holders_is in omega (arith, own, sum);
      }

  kept_as : (g : ℕ)
      → is_kept (in_use r') (holder_count r') g ≡ is_kept (in_use r) (holder_count r) g
  kept_as g = by_test (is_among g gens) refl (more g)
    where
      by_test : (b : Bool) → is_among g gens ≡ b
          → holder_count r' g ≡ holder_count r g + one_if b
          → is_kept (in_use r') (holder_count r') g ≡ is_kept (in_use r) (holder_count r) g
      by_test true is sum =
          ap (λ (c : Bool). c || nat_lt 0 (holder_count r' g)) (same g ∙ used g is)
          ∙ sym (ap (λ (c : Bool). c || nat_lt 0 (holder_count r g)) (used g is))
      by_test false is sum =
          let agree : holder_count r' g ≡ holder_count r g = omega (arith, sum) in
          ap (λ (c : Bool). c || nat_lt 0 (holder_count r' g)) (same g)
          ∙ ap (λ (n : ℕ). in_use r g || nat_lt 0 n) agree

  pub holds_held : (hs : List Held) → AreHolds r hs → AreHolds r' (map (with_holder gens) hs)
  holds_held hs are =
      holds r' (map (with_holder gens) hs)
      (counted_changed (in_use r) (in_use r') (holder_count r) (holder_count r')
      (with_holder gens) same_generation held_entry hs (counted r hs are) kept_as)

-- what holds of each number of a list, by those that are among it
pub each_among : (P : ℕ → Type 0) (gens : List ℕ) → ((g : ℕ) → is_among g gens ≡ true → P g)
    → AllByRecursion P gens
each_among P [] has = tt
each_among P (g ∷ gs) has = (
  has g (ap (λ (b : Bool). b || is_among g gs) (itself g)),
  each_among P gs (λ n is. has n (ap (λ (b : Bool). nat_eq n g || b) is ∙ or_true (nat_eq n g))),
)
  where
    or_true : (b : Bool) → (b || true) ≡ true
    or_true true = refl
    or_true false = refl

count_at_most : {X : Type 0} (t : X → Bool) (xs : List X) → length (filter t xs) ≤ length xs
count_at_most t [] = omega arith
count_at_most t (x ∷ xs) = by_test (t x) (count_at_most t xs)
  where
    by_test : (b : Bool) → length (filter t xs) ≤ length xs
        → length (cond b (x ∷ filter t xs) (filter t xs)) ≤ suc (length xs)
    by_test true h = omega (arith, h)
    by_test false h = omega (arith, h)

-- each that is in use has room for a holder more
pub have_room : (r : Record) (gens : List ℕ)
    → ((g : ℕ) → is_among g gens ≡ true → in_use r g ≡ true)
    → length (open_views r) + length (open_merges r) < 2 ^ 32 - 1 → (hs : List Held)
    → AreHolds r hs → All (HasRoom hs) gens
have_room r gens used few hs are =
    All-from_recursion (HasRoom hs) gens (each_among (HasRoom hs) gens (λ g is.
    entry_has (in_use r) (holder_count r) (λ h. h.holders < 2 ^ 32 - 1) g
    (λ h own at.
    let count = own.holders_is in
    let views = count_at_most (λ v. is_among h.generation v.generations) (open_views r) in
    let merges = count_at_most (λ m. is_among h.generation m.generations) (open_merges r) in
    omega (arith, count, views, merges, few))
    hs (counted r hs are).each
    (are.held g
    ∙ ap (λ (b : Bool). b || both g) (used g is))))
  where
    both : ℕ → Bool
    both g =
        list_any (λ v. is_among g v.generations) (open_views r)
        || list_any (λ m. is_among g m.generations) (open_merges r)
