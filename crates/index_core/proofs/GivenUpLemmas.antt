-- No more is given up than a view or a merge gives back.
use Rattle.std.proofs.Common.{◌≡◌, ◌≤◌, ◌<◌, ◌-◌, ℕ, Bool, true, false, cond, not, nat_eq}
use Rattle.std.proofs.Common.{◌||◌}
use Rattle.std.proofs.Common.{List, [], ◌∷◌, length, refl, sym, ap, ◌∙◌, subst, arith}
use Rattle.std.specs.Prelude.{filter, nat_lt, All, IsTrue}
use Rattle.std.specs.List.{AllByRecursion}
use Rattle.std.specs.List.Sorted.{IsStrictlyIncreasing}
use Rattle.index_holds.specs.declared.held.Held.{Held}
use Rattle.index_holds.specs.Entries.{Rise, AreUsed}
use Rattle.index_holds.specs.Holders.{is_held, is_used, after_release, after_retire, given_up}
use Rattle.index_holds.specs.Holders.{HasHolder, IsCurrentAndHeld}
use Rattle.index_holds.proofs.EntryLemmas.{all_among}
use Rattle.index_holds.proofs.FreedLemmas.{freed_exactly, held_of_entry}
use Rattle.index_core.specs.Histories.{Record, is_among}
use Rattle.index_core.specs.Records.{current, is_referenced}
use Rattle.index_core.specs.HeldGenerations.{IsEntryOf, AreHolds}
use Rattle.index_core.proofs.HoldingLemmas.{referenced_is}
use Rattle.index_core.proofs.RisingLemmas.{itself}

-- ---- each entry is used

used_one : (r : Record) (h : Held) → IsEntryOf r h → is_referenced r h.generation ≡ true
    → is_used h ≡ true
used_one r h is there =
    ap (λ (b : Bool). b || nat_lt 0 h.holders) is.in_use
    ∙ ap (λ (n : ℕ). is_among h.generation (current r) || nat_lt 0 n) is.held_by
    ∙ sym (referenced_is r h.generation) ∙ there

or_true : (b : Bool) → (b || true) ≡ true
or_true true = refl
or_true false = refl

used_each : (r : Record) (entries hs : List Held)
    → ((g : ℕ) → is_held entries g ≡ is_referenced r g)
    → ((g : ℕ) → is_held hs g ≡ true → is_held entries g ≡ true)
    → AllByRecursion (IsEntryOf r) hs → AreUsed hs
used_each r entries [] held inside each = tt
used_each r entries (h ∷ hs) held inside each = (
  used_one r h each.0
      (sym (held h.generation)
      ∙ inside h.generation
      (ap (λ (b : Bool). b || is_held hs h.generation) (itself h.generation))),
  used_each r entries hs held
      (λ g is. inside g
      (ap (λ (b : Bool). nat_eq h.generation g || b) is ∙ or_true (nat_eq h.generation g)))
      each.1,
)

are_used : (r : Record) (hs : List Held) → AreHolds r hs → AreUsed hs
are_used r hs are = used_each r hs hs are.held (λ g is. is) are.each

-- ---- what is given up

fewer : (p : ℕ → Bool) (gs : List ℕ) → length (filter p gs) ≤ length gs
fewer p [] = omega arith
fewer p (g ∷ gs) = by_test (p g) (fewer p gs)
  where
    by_test : (b : Bool) → length (filter p gs) ≤ length gs
        → length (cond b (g ∷ filter p gs) (filter p gs)) ≤ length (g ∷ gs)
    by_test true less = omega (arith, less)
    by_test false less = omega (arith, less)

pub few_released : (r : Record) (gens : List ℕ) (hs : List Held) → AreHolds r hs → Rise hs
    → IsStrictlyIncreasing gens → All (HasHolder hs) gens
    → length (given_up hs (after_release gens hs)) ≤ length gens
few_released r gens hs are up rises holders =
    let after = after_release gens hs in
    let freed = freed_exactly gens (λ (h : Held). record h { holders = h.holders - 1 }) hs after up
    (are_used r hs are) rises
    (λ g there. held_of_entry (λ h. 0 < h.holders) g hs
    (all_among (HasHolder hs) gens g holders there)) refl in
    subst (λ (gs : List ℕ). length gs ≤ length gens) freed
    (fewer (λ g. not (is_held after g)) gens)

pub few_retired : (r : Record) (gens : List ℕ) (hs : List Held) → AreHolds r hs → Rise hs
    → IsStrictlyIncreasing gens → All (IsCurrentAndHeld hs) gens
    → length (given_up hs (after_retire gens hs)) ≤ length gens
few_retired r gens hs are up rises holders =
    let after = after_retire gens hs in
    let freed = freed_exactly gens
    (λ (h : Held). record h { current = false; holders = h.holders - 1 }) hs after up
    (are_used r hs are) rises
    (λ g there. held_of_entry (λ h. IsTrue h.current × (0 < h.holders)) g hs
    (all_among (IsCurrentAndHeld hs) gens g holders there)) refl in
    subst (λ (gs : List ℕ). length gs ≤ length gens) freed
    (fewer (λ g. not (is_held after g)) gens)
