-- Halving: the place of a generation, and whether it is one of those that rise.
use Rattle.std.proofs.Common.{◌≡◌, ◌<◌, ◌≤◌, ℕ, zero, suc, Bool, true, false, arith}
use Rattle.std.proofs.Common.{nat_eq, nat_lt, ◌||◌, List, [], ◌∷◌, length, refl, ap}
use Rattle.std.proofs.Common.{inl, inr, get_or}
use Rattle.std.specs.Prelude.{insert, slice_index_or}
use Rattle.std.specs.List.Sorted.{IsPartitionedBy, IsPartitionPoint, IsStrictlyIncreasing}
use Rattle.std.proofs.lemmas.Bool.{cases_lt, ltb-true, ltb-false}
use Rattle.std.proofs.lemmas.Bool.Decides.{nat_tests}
use Rattle.std.proofs.lemmas.List.Kept.{AllPairs-from_increasing}
use Rattle.index_holds.specs.declared.held.Held.{Held}
use Rattle.index_holds.specs.Entries.{Rise}
use Rattle.index_holds.specs.Holders.{is_among, is_held, newly_current, with_current}
use Rattle.index_holds.proofs.EntryLemmas.{Above, above_less}

-- the place parts lesser generations from the others
abbrev pub Parts : ℕ → List Held → ℕ → Type 0
Parts g hs i = IsPartitionPoint (λ h. h.generation < g) (λ h. g ≤ h.generation) hs i

above_at : (g : ℕ) (hs : List Held) (k : ℕ) (d : Held) → Above g hs → k < length hs
    → g < (slice_index_or hs k d).generation
above_at g [] k d above within = absurd (omega arith)
above_at g (h ∷ hs) zero d above within = above.0
above_at g (h ∷ hs) (suc k) d above within = above_at g hs k d above.1 (omega arith)

pub parted : (g : ℕ) (hs : List Held) → Rise hs → IsPartitionedBy (λ h. nat_lt h.generation g) hs
parted g [] rise i j d low high less = absurd (omega arith)
parted g (h ∷ hs) rise zero zero d low high less = less
parted g (h ∷ hs) rise zero (suc j) d low high less =
    let up = above_at h.generation hs j d rise.0 (omega arith) in
    let under = ltb-true (slice_index_or hs j d).generation g less in
    let lesser : h.generation < g = omega (arith, up, under) in
    grind (arith, nat_tests)
parted g (h ∷ hs) rise (suc i) zero d low high less = absurd (omega arith)
parted g (h ∷ hs) rise (suc i) (suc j) d low high less =
    parted g hs rise.1 i j d (omega arith) (omega arith) less

pub parts : (g i : ℕ) (hs : List Held)
    → IsPartitionPoint (λ h. nat_lt h.generation g ≡ true) (λ h. nat_lt h.generation g ≡ false) hs i
    → Parts g hs i
parts g i hs at = (
  λ k d low high. ltb-true _ g (at.0 k d low high),
  λ k d low high. ltb-false _ g (at.1 k d low high),
)

parts_rest : (g i : ℕ) (h : Held) (hs : List Held) → Parts g (h ∷ hs) (suc i) → Parts g hs i
parts_rest g i h hs at = (
  λ k d low high. at.0 (suc k) d (omega arith) (omega (arith, high)),
  λ k d low high. at.1 (suc k) d (omega (arith, low)) (omega (arith, high)),
)

-- a generation goes to its place
pub insert-with_current : (g i : ℕ) (hs : List Held) → i ≤ length hs → Parts g hs i
    → insert hs i (newly_current g) ≡ with_current g hs
insert-with_current g zero [] within at = refl
insert-with_current g (suc i) [] within at = absurd (omega arith)
insert-with_current g zero (h ∷ hs) within at =
    let least : g ≤ h.generation = at.1 0 h (omega arith) (omega arith) in
    let here : nat_lt h.generation g ≡ false = grind (arith, nat_tests) in
    rw here refl
insert-with_current g (suc i) (h ∷ hs) within at =
    let less : h.generation < g = at.0 0 h (omega arith) (omega arith) in
    let here : nat_lt h.generation g ≡ true = grind (arith, nat_tests) in
    rw here (ap (λ zs. h ∷ zs)
    (insert-with_current g i hs (omega arith) (parts_rest g i h hs at)))

not_above : (g : ℕ) (hs : List Held) → Above g hs → is_held hs g ≡ false
not_above g [] above = refl
not_above g (h ∷ hs) above =
    let less : g < h.generation = above.0 in
    let other : nat_eq h.generation g ≡ false = grind (arith, nat_tests) in
    rw other (not_above g hs above.1)

first_only : (b : Bool) (g : ℕ) (h : Held) (hs : List Held) → nat_eq h.generation g ≡ b
    → g ≤ h.generation → Above h.generation hs → (b || is_held hs g) ≡ b
first_only true g h hs is least above = refl
first_only false g h hs is least above =
    not_above g hs (above_less g h.generation hs least above)

-- the one at the place is the only one that may have the generation
pub is_held-at : (g i : ℕ) (hs : List Held) (d : Held) → Rise hs → Parts g hs i → i < length hs
    → is_held hs g ≡ nat_eq (slice_index_or hs i d).generation g
is_held-at g i [] d rise at within = absurd (omega arith)
is_held-at g zero (h ∷ hs) d rise at within =
    first_only (nat_eq h.generation g) g h hs refl (at.1 0 h (omega arith) (omega arith)) rise.0
is_held-at g (suc i) (h ∷ hs) d rise at within =
    let less : h.generation < g = at.0 0 h (omega arith) (omega arith) in
    let other : nat_eq h.generation g ≡ false = grind (arith, nat_tests) in
    rw other (is_held-at g i hs d rise.1 (parts_rest g i h hs at) (omega arith))

-- where all are lesser it isn't held
pub not_held : (g i : ℕ) (hs : List Held) → Parts g hs i → length hs ≤ i → is_held hs g ≡ false
not_held g i [] at within = refl
not_held g zero (h ∷ hs) at within = absurd (omega arith)
not_held g (suc i) (h ∷ hs) at within =
    let less : h.generation < g = at.0 0 h (omega arith) (omega arith) in
    let other : nat_eq h.generation g ≡ false = grind (arith, nat_tests) in
    rw other (not_held g i hs (parts_rest g i h hs at) (omega arith))

-- numbers that rise strictly

pub never_falls : (xs : List ℕ) → IsStrictlyIncreasing xs → (i j : ℕ) → i ≤ j → j < length xs
    → get_or xs i 0 ≤ get_or xs j 0
never_falls xs rises i j le within =
    elim (cases_lt i j) as (λ _. get_or xs i 0 ≤ get_or xs j 0) [
      | inl less ↦
          (let up = AllPairs-from_increasing xs rises i j 0 less within in omega (arith, up))
      | inr least ↦
          (let same : i ≡ j = omega (arith, le, least) in
          let e : get_or xs i 0 ≡ get_or xs j 0 = ap (λ k. get_or xs k 0) same in
          omega (arith, e))
    ]

pub not_among : (n : ℕ) (xs : List ℕ)
    → ((k : ℕ) → k < length xs → get_or xs k 0 ≡ n → ⊥) → is_among n xs ≡ false
not_among n [] differs = refl
not_among n (x ∷ xs) differs =
    let other : x ≡ n → ⊥ = differs 0 (omega arith) in
    let here : nat_eq n x ≡ false = grind (arith, nat_tests) in
    rw here (not_among n xs (λ k within. differs (suc k) (omega (arith, within))))

-- all before the place are lesser and the others greater
pub not_among_at : (n i : ℕ) (xs : List ℕ) → ((k : ℕ) → k < i → get_or xs k 0 < n)
    → ((k : ℕ) → i ≤ k → k < length xs → n < get_or xs k 0) → is_among n xs ≡ false
not_among_at n i xs lesser greater = not_among n xs (λ k within same.
    elim (cases_lt k i) as (λ _. ⊥) [
      | inl low ↦ (let less = lesser k low in omega (arith, less, same))
      | inr high ↦ (let more = greater k high within in omega (arith, more, same))
    ])
