-- What is held after a merge has ended, and what is given up.
use Rattle.std.proofs.Common.{◌≡◌, ◌<◌, ◌+◌, ◌-◌, ℕ, Bool, true, false, cond, not}
use Rattle.std.proofs.Common.{nat_eq, ◌&&◌, ◌||◌, List, [], ◌∷◌, refl, sym, ap}
use Rattle.std.proofs.Common.{◌∙◌, arith, IsTrue}
use Rattle.std.specs.Prelude.{filter, nat_lt, All}
use Rattle.std.specs.List.{AllByRecursion}
use Rattle.std.proofs.lemmas.Bool.Decides.{nat_tests}
use Rattle.std.proofs.lemmas.List.Elements.{All-from_recursion}
use Rattle.index_holds.specs.declared.held.Held.{Held}
use Rattle.index_holds.specs.Entries.{Rise}
use Rattle.index_holds.specs.Holders.{is_held, with_current, without_current, after_retire}
use Rattle.index_holds.specs.Holders.{given_up, IsCurrentAndHeld}
use Rattle.index_core.specs.Histories.{Record, is_among}
use Rattle.index_core.specs.Records.{drawn, is_referenced}
use Rattle.index_core.specs.HeldGenerations.{holder_count, AreHolds, RisesFrom}
use Rattle.index_core.proofs.CountedLemmas.{is_kept, IsCounted, AreCounted, counted_used}
use Rattle.index_core.proofs.CountedLemmas.{counted_with, entry_has}
use Rattle.index_core.proofs.HoldingLemmas.{one_if, referenced_is}
use Rattle.index_core.proofs.HoldsLemmas.{unheld, each_among, counted_agree}
use Rattle.index_core.proofs.ReleasingLemmas.{in_use, counted, holds, given_up_is}

and_true : (b : Bool) → (b && true) ≡ b
and_true true = refl
and_true false = refl

and_false : (b : Bool) → (b && false) ≡ false
and_false true = refl
and_false false = refl

module _ (r r' : Record) (gens : List ℕ)
    (fewer : (g : ℕ) → holder_count r g ≡ holder_count r' g + one_if (is_among g gens)) where
  -- whether a generation is in use and isn't replaced
  abbrev pub left : ℕ → Bool
  left g = in_use r g && not (is_among g gens)

  same_generation : (h : Held) → (without_current gens h).generation ≡ h.generation
  same_generation h = by_test (is_among h.generation gens)
    where
      by_test : (b : Bool)
          → (cond b (record h { current = false; holders = h.holders - 1 }) h).generation
          ≡ h.generation
      by_test true = refl
      by_test false = refl

  retired_entry : (h : Held) → IsCounted (in_use r) (holder_count r) h
      → IsCounted left (holder_count r') (without_current gens h)
  retired_entry h is = by_test (is_among h.generation gens) refl (fewer h.generation)
    where
      by_test : (b : Bool) → is_among h.generation gens ≡ b
          → holder_count r h.generation ≡ holder_count r' h.generation + one_if b
          → IsCounted left (holder_count r')
          (cond b (record h { current = false; holders = h.holders - 1 }) h)
      by_test true there split = record {
        current_is = sym (ap (λ (b : Bool). in_use r h.generation && not b) there
            ∙ and_false (in_use r h.generation));
        holders_is = let own = is.holders_is in omega (arith, own, split);
      }
      by_test false there split = record {
        current_is = is.current_is
            ∙ sym (ap (λ (b : Bool). in_use r h.generation && not b) there
            ∙ and_true (in_use r h.generation));
        holders_is = let own = is.holders_is in omega (arith, own, split);
      }

  kept_more : (a b : Bool) (m n k : ℕ) → n ≡ m + k → ((a && b) || nat_lt 0 m) ≡ true
      → (a || nat_lt 0 n) ≡ true
  kept_more true b m n k e is = refl
  kept_more false b m n k e is =
      let some : 0 < m = grind (arith, nat_tests) in grind (arith, nat_tests)

  still_referenced : (g : ℕ) → is_kept left (holder_count r') g ≡ true
      → is_kept (in_use r) (holder_count r) g ≡ true
  still_referenced g is =
      kept_more (in_use r g) (not (is_among g gens)) (holder_count r' g) (holder_count r g)
      (one_if (is_among g gens)) (fewer g) is

  counted_retired : (hs : List Held) → AreHolds r hs
      → AreCounted left (holder_count r') (after_retire gens hs)
  counted_retired hs are =
      counted_used (in_use r) left (holder_count r) (holder_count r') (without_current gens)
      same_generation retired_entry hs (counted r hs are) still_referenced

  -- where the merge brings nothing
  pub holds_retired : ((g : ℕ) → in_use r' g ≡ left g) → (hs : List Held) → AreHolds r hs
      → AreHolds r' (after_retire gens hs)
  holds_retired used hs are =
      holds r' (after_retire gens hs)
      (counted_agree left (in_use r') (holder_count r') (holder_count r') used (λ g. refl)
      (after_retire gens hs) (counted_retired hs are))

  out_after : (into : ℕ) → is_referenced r into ≡ false
      → is_kept left (holder_count r') into ≡ false
  out_after into out = by_test (is_kept left (holder_count r') into) refl
    where
      by_test : (b : Bool) → is_kept left (holder_count r') into ≡ b → b ≡ false
      by_test false is = refl
      by_test true is =
          let no : true ≡ false =
          sym (still_referenced into is) ∙ sym (referenced_is r into) ∙ out in
          cc

  none_after : (into : ℕ) → is_referenced r into ≡ false → holder_count r' into ≡ 0
  none_after into out =
      let split = fewer into in
      let none = unheld r into out in
      omega (arith, split, none)

  pub not_held_after : (into : ℕ) → is_referenced r into ≡ false → (hs : List Held)
      → AreHolds r hs → is_held (after_retire gens hs) into ≡ false
  not_held_after into out hs are = (counted_retired hs are).kept into ∙ out_after into out

  -- where it brings a generation
  pub holds_brought : (into : ℕ) → is_referenced r into ≡ false
      → ((n : ℕ) → in_use r' n ≡ (nat_eq into n || left n)) → (hs : List Held) → AreHolds r hs
      → AreHolds r' (with_current into (after_retire gens hs))
  holds_brought into out comes hs are =
      holds r' (with_current into (after_retire gens hs))
      (counted_with left (in_use r') (holder_count r') into (none_after into out) comes
      (after_retire gens hs) (counted_retired hs are) (not_held_after into out hs are))

  -- each is current and has a holder
  pub have_current : ((g : ℕ) → is_among g gens ≡ true → in_use r g ≡ true) → (hs : List Held)
      → AreHolds r hs → All (IsCurrentAndHeld hs) gens
  have_current used hs are =
      All-from_recursion (IsCurrentAndHeld hs) gens (each_among (IsCurrentAndHeld hs) gens
      (λ g is.
      entry_has (in_use r) (holder_count r) (λ h. IsTrue h.current × (0 < h.holders)) g
      (λ h own at. (
        own.current_is ∙ ap (in_use r) at ∙ used g is,
        (let count = own.holders_is in
            let same = ap (holder_count r) at in
            let split = fewer g in
            let one = ap one_if is in
            omega (arith, count, same, split, one)),
      ))
      hs (counted r hs are).each
      (are.held g ∙ referenced_is r g
      ∙ ap (λ (b : Bool). b || nat_lt 0 (holder_count r g)) (used g is))))

  filter_same : (p q : ℕ → Bool) (gs : List ℕ) → AllByRecursion (λ g. p g ≡ q g) gs
      → filter p gs ≡ filter q gs
  filter_same p q [] all = refl
  filter_same p q (g ∷ gs) all =
      ap (λ (b : Bool). cond b (g ∷ filter p gs) (filter p gs)) all.0
      ∙ ap (λ (zs : List ℕ). cond (q g) (g ∷ zs) zs) (filter_same p q gs all.1)

  and_first : (a b : Bool) → (a && b) ≡ true → a ≡ true
  and_first true b is = refl
  and_first false b is = is

  -- what is given up is what was referenced and isn't any more
  pub given_up-retired : (hs : List Held) → Rise hs → AreHolds r hs → RisesFrom 0 (drawn r)
      → ((g : ℕ) → is_referenced r g ≡ true → is_among g (drawn r) ≡ true)
      → ((g : ℕ) → is_among g (drawn r) ≡ true → in_use r' g ≡ left g)
      → given_up hs (after_retire gens hs)
      ≡ filter (λ g. is_referenced r g && not (is_referenced r' g)) (drawn r)
  given_up-retired hs up are rises were used =
      let later = is_kept left (holder_count r') in
      given_up_is r later hs (after_retire gens hs) up are (counted_retired hs are).kept rises
      (λ g is. were g (and_first (is_referenced r g) (not (later g)) is))
      ∙ filter_same (λ g. is_referenced r g && not (later g))
      (λ g. is_referenced r g && not (is_referenced r' g)) (drawn r)
      (each_among (λ g. (is_referenced r g && not (later g))
      ≡ (is_referenced r g && not (is_referenced r' g))) (drawn r)
      (λ g there. ap (λ (b : Bool). is_referenced r g && not b)
      (ap (λ (b : Bool). b || nat_lt 0 (holder_count r' g)) (sym (used g there))
      ∙ sym (referenced_is r' g))))
