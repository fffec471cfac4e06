-- What every plan keeps to.
use Rattle.std.proofs.Common.{◌≡◌, ◌≤◌, ◌-◌, ◌⊎◌, inl, inr, ℕ, zero, suc, Bool, true, false}
use Rattle.std.proofs.Common.{not, cond, nat_eq, nat_lt, nat_le, ◌&&◌, List, [], ◌∷◌, length, take}
use Rattle.std.proofs.Common.{Option, Some, None, refl, arith}
use Rattle.std.specs.Prelude.{map, filter, find, option_map, sum_by, IfSome}
use Rattle.std.specs.List.{AllByRecursion}
use Rattle.std.proofs.lemmas.Bool.{ltb-true}
use Rattle.std.proofs.lemmas.Bool.Decides.{nat_tests}
use Rattle.sg_paths.specs.declared.limits.TheConstants.{MOST_SEGMENT_DOCUMENTS}
use Rattle.sg_paths.specs.declared.limits.TheConstants.{MOST_SEGMENT_PATHS}
use Rattle.merge_plan.specs.declared.size.Size.{Size}
use Rattle.merge_plan.specs.Merges.{candidates, digits, first_of, first_ten, full_level, is_full}
use Rattle.merge_plan.specs.Merges.{mostly_deleted, planned}
use Rattle.merge_plan.specs.PlanLaws.{AreTen, IsOneDeleted}

abbrev AreFree : List Size → Type 0
AreFree = AllByRecursion (λ s. s.held ≡ false)

-- ---- what is found passes

find_at : (b : Bool) {X : Type 0} (p : X → Bool) (x : X) (o : Option X) → p x ≡ b
    → IfSome o (λ y. p y ≡ true) → IfSome (cond b (Some x) o) (λ y. p y ≡ true)
find_at true p x o is more = is
find_at false p x o is more = more

find_passes : {X : Type 0} (p : X → Bool) (xs : List X) → IfSome (find p xs) (λ x. p x ≡ true)
find_passes p [] = tt
find_passes p (x ∷ xs) = find_at (p x) p x (find p xs) refl (find_passes p xs)

held_at : (b : Bool) {X : Type 0} (Q : X → Type 0) (x : X) (o : Option X) → Q x → IfSome o Q
    → IfSome (cond b (Some x) o) Q
held_at true Q x o is more = is
held_at false Q x o is more = more

-- what is so of all is so of what is found
find_holds : {X : Type 0} (p : X → Bool) (Q : X → Type 0) (xs : List X) → AllByRecursion Q xs
    → IfSome (find p xs) Q
find_holds p Q [] all = tt
find_holds p Q (x ∷ xs) all = held_at (p x) Q x (find p xs) all.0 (find_holds p Q xs all.1)

first_holds : {X : Type 0} (Q : X → Type 0) (one other : Option X) → IfSome one Q → IfSome other Q
    → IfSome (first_of one other) Q
first_holds Q (Some x) other is more = is
first_holds Q None other is more = more

-- ---- candidates are free

free_at : (b : Bool) (s : Size) (ss : List Size) → s.held ≡ b → AreFree ss
    → AreFree (cond (not b) (s ∷ ss) ss)
free_at true s ss is free = free
free_at false s ss is free = (is, free)

free-candidates : (sizes : List Size) → AreFree (candidates sizes)
free-candidates [] = tt
free-candidates (s ∷ ss) = free_at s.held s (candidates ss) refl (free-candidates ss)

free-filter_at : (b : Bool) (s : Size) (ss : List Size) → s.held ≡ false → AreFree ss
    → AreFree (cond b (s ∷ ss) ss)
free-filter_at true s ss first free = (first, free)
free-filter_at false s ss first free = free

free-filter : (p : Size → Bool) (ss : List Size) → AreFree ss → AreFree (filter p ss)
free-filter p [] free = tt
free-filter p (s ∷ ss) free =
    free-filter_at (p s) s (filter p ss) free.0 (free-filter p ss free.1)

free-take : (n : ℕ) (ss : List Size) → AreFree ss → AreFree (take n ss)
free-take zero ss free = tt
free-take (suc n) [] free = tt
free-take (suc n) (s ∷ ss) free = (free.0, free-take n ss free.1)

free-levels : (sizes : List Size) (levels : List ℕ) → AreFree sizes
    → AllByRecursion AreFree (map (first_ten sizes) levels)
free-levels sizes [] free = tt
free-levels sizes (level ∷ levels) free = (
  free-take 10 (filter (λ s. nat_eq (digits s.live) level) sizes)
      (free-filter (λ s. nat_eq (digits s.live) level) sizes free),
  free-levels sizes levels free,
)

free_alone : (o : Option Size) → IfSome o (λ s. s.held ≡ false)
    → IfSome (option_map (λ s. s ∷ []) o) AreFree
free_alone None is = tt
free_alone (Some s) is = (is, tt)

-- no segment that a merge holds is merged again
pub planned-free : (sizes : List Size) → IfSome (planned sizes) AreFree
planned-free sizes =
    let free = candidates sizes in
    let are = free-candidates sizes in
    first_holds AreFree (full_level free) (mostly_deleted free)
    (find_holds is_full AreFree
    (map (first_ten free) (1 ∷ 2 ∷ 3 ∷ 4 ∷ 5 ∷ 6 ∷ 7 ∷ 8 ∷ 9 ∷ 10 ∷ []))
    (free-levels free (1 ∷ 2 ∷ 3 ∷ 4 ∷ 5 ∷ 6 ∷ 7 ∷ 8 ∷ 9 ∷ 10 ∷ []) are))
    (free_alone (find (λ s. nat_lt s.live (s.documents - s.live)) free)
    (find_holds (λ s. nat_lt s.live (s.documents - s.live)) (λ s. s.held ≡ false) free are))

-- ---- ten that fit, or one

abbrev Kinds : List Size → Type 0
Kinds chosen = AreTen chosen ⊎ IsOneDeleted chosen

tests : (a b c : Bool) → (a && b && c) ≡ true → (a ≡ true) × (b ≡ true) × (c ≡ true)
tests true true true is = (refl, refl, refl)
tests true true false is = absurd cc
tests true false c is = absurd cc
tests false b c is = absurd cc

same_number : (m n : ℕ) → nat_eq m n ≡ true → m ≡ n
same_number m n is = grind (arith, nat_tests)

at_most : (m n : ℕ) → nat_le m n ≡ true → m ≤ n
at_most m n is = grind (arith, nat_tests)

ten_of : (chosen : List Size) → is_full chosen ≡ true → AreTen chosen
ten_of chosen is =
    let documents = sum_by (λ (s : Size). s.documents) chosen in
    let paths = sum_by (λ (s : Size). s.paths) chosen in
    let all = tests (nat_eq (length chosen) 10) (nat_le documents MOST_SEGMENT_DOCUMENTS)
    (nat_le paths MOST_SEGMENT_PATHS) is in
    record {
      ten = same_number (length chosen) 10 all.0;
      documents = at_most documents MOST_SEGMENT_DOCUMENTS all.1;
      paths = at_most paths MOST_SEGMENT_PATHS all.2;
    }

ten_kinds : (o : Option (List Size)) → IfSome o (λ chosen. is_full chosen ≡ true) → IfSome o Kinds
ten_kinds None is = tt
ten_kinds (Some chosen) is = inl (ten_of chosen is)

one_kinds : (o : Option Size) → IfSome o (λ s. nat_lt s.live (s.documents - s.live) ≡ true)
    → IfSome (option_map (λ s. s ∷ []) o) Kinds
one_kinds None is = tt
one_kinds (Some s) is = inr (s, refl, ltb-true s.live (s.documents - s.live) is)

-- those merged are ten that fit in one segment, or one that is mostly deleted
pub planned-kinds : (sizes : List Size) → IfSome (planned sizes) Kinds
planned-kinds sizes =
    let free = candidates sizes in
    first_holds Kinds (full_level free) (mostly_deleted free)
    (ten_kinds (full_level free) (find_passes is_full
    (map (first_ten free) (1 ∷ 2 ∷ 3 ∷ 4 ∷ 5 ∷ 6 ∷ 7 ∷ 8 ∷ 9 ∷ 10 ∷ []))))
    (one_kinds (find (λ s. nat_lt s.live (s.documents - s.live)) free)
    (find_passes (λ s. nat_lt s.live (s.documents - s.live)) free))
