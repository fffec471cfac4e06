-- What the merge plan gives: sizes of free generations, rising, with their limits.
use Rattle.std.proofs.Common.{◌≡◌, ◌≤◌, ◌<◌, ◌+◌, ◌-◌, ℕ, zero, suc, Bool, true, false, cond, not}
use Rattle.std.proofs.Common.{nat_eq, ◌&&◌, ◌||◌, ◌⊎◌, inl, inr, Option, Some, None, List, [], ◌∷◌}
use Rattle.std.proofs.Common.{length, map, take, refl, sym, ap, ◌∙◌, subst, arith}
use Rattle.std.specs.Prelude.{filter, find, nat_le, nat_lt, option_map, sum_by}
use Rattle.std.specs.List.{AllByRecursion, list_any}
use Rattle.std.proofs.lemmas.Bool.Decides.{nat_tests}
use Rattle.std.proofs.lemmas.List.Sums.{sum_by-cons}
use Rattle.sg_paths.specs.declared.limits.TheConstants.{MOST_SEGMENT_DOCUMENTS}
use Rattle.sg_paths.specs.declared.limits.TheConstants.{MOST_SEGMENT_PATHS}
use Rattle.merge_plan.specs.declared.size.Size.{Size}
use Rattle.merge_plan.specs.Merges.{candidates, first_ten, is_full, full_level, mostly_deleted}
use Rattle.merge_plan.specs.Merges.{first_of, planned, digits}
use Rattle.index_core.specs.Histories.{Record, is_among}
use Rattle.index_core.specs.Records.{current, open_merges}
use Rattle.index_core.specs.Generations.{is_built}
use Rattle.index_core.specs.Merges.{size_of, merge_plan}
use Rattle.index_core.specs.HeldGenerations.{RisesFrom}
use Rattle.index_core.specs.PlannedMerges.{IsPlanned, IsWithinSegment}
use Rattle.index_core.proofs.ListLemmas.{all_weaker, in_all, not_true}
use Rattle.index_core.proofs.RisingLemmas.{rises_less, rises-filter}

-- ---- parts of lists

found : {X : Type 0} (p : X → Bool) (P : X → Type 0) (xs : List X) (x : X) → AllByRecursion P xs
    → find p xs ≡ Some x → (p x ≡ true) × P x
found p P [] x all is = let no : None ≡ Some x = is in absurd cc
found p P (y ∷ ys) x all is = by_test (p y) refl is (λ e. found p P ys x all.1 e)
  where
    by_test : (b : Bool) → p y ≡ b → cond b (Some y) (find p ys) ≡ Some x
        → (find p ys ≡ Some x → (p x ≡ true) × P x) → (p x ≡ true) × P x
    by_test true passes e again =
        let same : y ≡ x = cc in (sym (ap p same) ∙ passes, subst P same all.0)
    by_test false passes e again = again e

-- what passes a test
all_passing : {X : Type 0} (P : X → Type 0) (p : X → Bool) (xs : List X) → AllByRecursion P xs
    → AllByRecursion (λ x. P x × (p x ≡ true)) (filter p xs)
all_passing P p [] all = tt
all_passing P p (x ∷ xs) all = by_test (p x) refl (all_passing P p xs all.1)
  where
    by_test : (b : Bool) → p x ≡ b → AllByRecursion (λ y. P y × (p y ≡ true)) (filter p xs)
        → AllByRecursion (λ y. P y × (p y ≡ true)) (cond b (x ∷ filter p xs) (filter p xs))
    by_test true passes later = ((all.0, passes), later)
    by_test false passes later = later

all_take : {X : Type 0} (P : X → Type 0) (n : ℕ) (xs : List X) → AllByRecursion P xs
    → AllByRecursion P (take n xs)
all_take P zero xs all = tt
all_take P (suc n) [] all = tt
all_take P (suc n) (x ∷ xs) all = (all.0, all_take P n xs all.1)

rise_filter : (p : Size → Bool) (n : ℕ) (ss : List Size)
    → RisesFrom n (map (λ s. s.generation) ss)
    → RisesFrom n (map (λ s. s.generation) (filter p ss))
rise_filter p n [] up = tt
rise_filter p n (s ∷ ss) up = by_test (p s) (rise_filter p (s.generation + 1) ss up.1)
  where
    by_test : (b : Bool) → RisesFrom (s.generation + 1) (map (λ x. x.generation) (filter p ss))
        → RisesFrom n (map (λ x. x.generation) (cond b (s ∷ filter p ss) (filter p ss)))
    by_test true later = (up.0, later)
    by_test false later =
        rises_less n (s.generation + 1) (map (λ x. x.generation) (filter p ss))
        (let least = up.0 in omega (arith, least)) later

rise_take : (k n : ℕ) (ss : List Size) → RisesFrom n (map (λ s. s.generation) ss)
    → RisesFrom n (map (λ s. s.generation) (take k ss))
rise_take zero n ss up = tt
rise_take (suc k) n [] up = tt
rise_take (suc k) n (s ∷ ss) up = (up.0, rise_take k (s.generation + 1) ss up.1)

-- ---- sizes

-- sizes of rising generations
pub record AreSizes (P : Size → Type 0) (ss : List Size) : Type 0 where
  pub each : AllByRecursion P ss
  pub rising : RisesFrom 0 (map (λ s. s.generation) ss)

module _ (P : Size → Type 0) where
  sizes_filter : (p : Size → Bool) (ss : List Size) → AreSizes P ss → AreSizes P (filter p ss)
  sizes_filter p ss are = record {
    each = all_weaker (λ s. P s × (p s ≡ true)) P (λ s both. both.0) (filter p ss)
        (all_passing P p ss are.each);
    rising = rise_filter p 0 ss are.rising;
  }

  sizes_take : (n : ℕ) (ss : List Size) → AreSizes P ss → AreSizes P (take n ss)
  sizes_take n ss are = record {
    each = all_take P n ss are.each;
    rising = rise_take n 0 ss are.rising;
  }

  sizes_levels : (ss : List Size) (levels : List ℕ) → AreSizes P ss
      → AllByRecursion (AreSizes P) (map (first_ten ss) levels)
  sizes_levels ss [] are = tt
  sizes_levels ss (level ∷ levels) are = (
    sizes_take 10 (filter (λ s. nat_eq (digits s.live) level) ss)
        (sizes_filter (λ s. nat_eq (digits s.live) level) ss are),
    sizes_levels ss levels are,
  )

-- ---- what is planned

-- sizes that the plan chooses: one to ten, where one alone has documents that are deleted, and
-- together within a segment's limits where each is
pub record AreChosen (P : Size → Type 0) (ss : List Size) : Type 0 where
  pub are : AreSizes P ss
  pub some : 1 ≤ length ss
  pub few : length ss ≤ 10
  pub saves : (2 ≤ length ss) ⊎ ((s : Size) × (ss ≡ s ∷ []) × (s.live < s.documents))
  pub within : AllByRecursion IsWithinSegment ss
      → (sum_by (λ s. s.documents) ss ≤ MOST_SEGMENT_DOCUMENTS)
      × (sum_by (λ s. s.paths) ss ≤ MOST_SEGMENT_PATHS)

full_parts : (a b c : Bool) → (a && b && c) ≡ true → (a ≡ true) × (b ≡ true) × (c ≡ true)
full_parts true true true e = (refl, refl, refl)
full_parts true true false e = let no : false ≡ true = e in absurd cc
full_parts true false c e = let no : false ≡ true = e in absurd cc
full_parts false b c e = let no : false ≡ true = e in absurd cc

at_most : (m n : ℕ) → nat_le m n ≡ true → m ≤ n
at_most m n is = grind (arith, nat_tests)

fewer_live : (s : Size) → nat_lt s.live (s.documents - s.live) ≡ true → s.live < s.documents
fewer_live s is = grind (arith, nat_tests)

same_number : (m n : ℕ) → nat_eq m n ≡ true → m ≡ n
same_number m n is = grind (arith, nat_tests)

module _ (P : Size → Type 0) where
  full_chosen : (ss : List Size) → AreSizes P ss → is_full ss ≡ true → AreChosen P ss
  full_chosen ss are full =
      let parts = full_parts (nat_eq (length ss) 10)
      (nat_le (sum_by (λ s. s.documents) ss) MOST_SEGMENT_DOCUMENTS)
      (nat_le (sum_by (λ s. s.paths) ss) MOST_SEGMENT_PATHS) full in
      let ten = same_number (length ss) 10 parts.0 in
      record {
        are = are;
        some = omega (arith, ten);
        few = omega (arith, ten);
        saves = inl (omega (arith, ten));
        within = λ all. (
          at_most (sum_by (λ s. s.documents) ss) MOST_SEGMENT_DOCUMENTS parts.1,
          at_most (sum_by (λ s. s.paths) ss) MOST_SEGMENT_PATHS parts.2,
        );
      }

  one_chosen : (s : Size) → P s → s.live < s.documents → AreChosen P (s ∷ [])
  one_chosen s is less = record {
    are = record { each = (is, tt); rising = (omega arith, tt) };
    some = omega arith;
    few = omega arith;
    saves = inr (s, refl, less);
    within = λ all. (
      (let sum = sum_by-cons (λ (x : Size). x.documents) s [] in let most = all.0.0 in
          omega (arith, sum, most)),
      (let sum = sum_by-cons (λ (x : Size). x.paths) s [] in let most = all.0.1 in
          omega (arith, sum, most)),
    );
  }

  alone_chosen : (o : Option Size) (chosen : List Size)
      → ((s : Size) → o ≡ Some s → P s × (s.live < s.documents))
      → option_map (λ s. s ∷ []) o ≡ Some chosen → AreChosen P chosen
  alone_chosen None chosen each is = let no : None ≡ Some chosen = is in absurd cc
  alone_chosen (Some s) chosen each is =
      let same : s ∷ [] ≡ chosen = cc in
      let got = each s refl in
      subst (λ (xs : List Size). AreChosen P xs) same (one_chosen s got.0 got.1)

  first_chosen : (a b : Option (List Size)) (chosen : List Size)
      → ((xs : List Size) → a ≡ Some xs → AreChosen P xs)
      → ((xs : List Size) → b ≡ Some xs → AreChosen P xs)
      → first_of a b ≡ Some chosen → AreChosen P chosen
  first_chosen (Some xs) b chosen f g is = f chosen is
  first_chosen None b chosen f g is = g chosen is

  -- of sizes that no merge holds
  free_chosen : (free chosen : List Size) → AreSizes P free
      → first_of (full_level free) (mostly_deleted free) ≡ Some chosen → AreChosen P chosen
  free_chosen free chosen own is =
      let levels : List ℕ = 1 ∷ 2 ∷ 3 ∷ 4 ∷ 5 ∷ 6 ∷ 7 ∷ 8 ∷ 9 ∷ 10 ∷ [] in
      first_chosen (full_level free) (mostly_deleted free) chosen
      (λ xs e.
      let there = found is_full (AreSizes P) (map (first_ten free) levels) xs
      (sizes_levels P free levels own) e in
      full_chosen xs there.1 there.0)
      (λ xs e. alone_chosen (find (λ s. nat_lt s.live (s.documents - s.live)) free) xs
      (λ s there.
      let got = found (λ x. nat_lt x.live (x.documents - x.live)) P free s own.each there in
      (got.1, fewer_live s got.0)) e)
      is

-- ---- sizes of a record

-- the size of a current generation that has its segment
pub record IsSize (r : Record) (s : Size) : Type 0 where
  pub own : s ≡ size_of r s.generation
  pub in_use : is_among s.generation (current r) ≡ true
  pub built : is_built r s.generation ≡ true

-- and that no open merge holds
pub record IsFree (r : Record) (s : Size) : Type 0 where
  pub size : IsSize r s
  pub free : list_any (λ m. is_among s.generation m.generations) (open_merges r) ≡ false

free_of : (r : Record) (s : Size) → IsSize r s → not s.held ≡ true → IsFree r s
free_of r s is passes = record {
  size = is;
  free = ap (λ (x : Size). x.held) (sym is.own) ∙ not_true s.held passes;
}

all_sizes : (r : Record) (gens : List ℕ)
    → AllByRecursion (λ g. is_among g (current r) ≡ true) gens
    → AllByRecursion (IsSize r) (map (size_of r) (filter (is_built r) gens))
all_sizes r [] used = tt
all_sizes r (g ∷ gs) used = by_test (is_built r g) refl (all_sizes r gs used.1)
  where
    by_test : (b : Bool) → is_built r g ≡ b
        → AllByRecursion (IsSize r) (map (size_of r) (filter (is_built r) gs))
        → AllByRecursion (IsSize r)
        (map (size_of r) (cond b (g ∷ filter (is_built r) gs) (filter (is_built r) gs)))
    by_test true is later = (record { own = refl; in_use = used.0; built = is }, later)
    by_test false is later = later

own_numbers : (r : Record) (gens : List ℕ)
    → map (λ s. s.generation) (map (size_of r) gens) ≡ gens
own_numbers r [] = refl
own_numbers r (g ∷ gs) = ap (λ (ns : List ℕ). g ∷ ns) (own_numbers r gs)

pub all_members : (gens whole : List ℕ)
    → ((g : ℕ) → is_among g gens ≡ true → is_among g whole ≡ true)
    → AllByRecursion (λ g. is_among g whole ≡ true) gens
all_members [] whole inside = tt
all_members (g ∷ gs) whole inside = (
  inside g (ap (λ (b : Bool). b || is_among g gs) (itself g)),
  all_members gs whole (λ n is. inside n (ap (λ (b : Bool). nat_eq n g || b) is
      ∙ or_true (nat_eq n g))),
)
  where
    itself : (n : ℕ) → nat_eq n n ≡ true
    itself n = grind (arith, nat_tests)

    or_true : (b : Bool) → (b || true) ≡ true
    or_true true = refl
    or_true false = refl

mapped : (o : Option (List Size)) (gens : List ℕ)
    → option_map (map (λ s. s.generation)) o ≡ Some gens
    → (ss : List Size) × (o ≡ Some ss) × (map (λ s. s.generation) ss ≡ gens)
mapped None gens is = let no : None ≡ Some gens = is in absurd cc
mapped (Some ss) gens is = (ss, refl, cc)

-- the sizes that a plan chose, by their generations
pub record IsChoice (P : Size → Type 0) (gens : List ℕ) : Type 0 where
  pub sizes : List Size
  pub chosen : AreChosen P sizes
  pub numbers : map (λ s. s.generation) sizes ≡ gens

-- what holds of all sizes holds of those that the plan gives, and they are free
pub choice : (r : Record) (Q : Size → Type 0) (gens : List ℕ) → RisesFrom 0 (current r)
    → merge_plan r ≡ Some gens
    → AllByRecursion Q (map (size_of r) (filter (is_built r) (current r)))
    → IsChoice (λ s. IsFree r s × Q s) gens
choice r Q gens up is each =
    let sizes = map (size_of r) (filter (is_built r) (current r)) in
    let got = mapped (planned sizes) gens is in
    let members = all_members (current r) (current r) (λ g there. there) in
    let all_rise : RisesFrom 0 (map (λ s. s.generation) sizes) =
    subst (λ (gs : List ℕ). RisesFrom 0 gs)
    (sym (own_numbers r (filter (is_built r) (current r))))
    (rises-filter (is_built r) 0 (current r) up) in
    let own : AreSizes (λ s. IsFree r s × Q s) (candidates sizes) = record {
      each = all_weaker (λ s. (IsSize r s × Q s) × (not s.held ≡ true))
          (λ s. IsFree r s × Q s) (λ s all. (free_of r s all.0.0 all.1, all.0.1))
          (candidates sizes)
          (all_passing (λ s. IsSize r s × Q s) (λ s. not s.held) sizes
          (both_all sizes (all_sizes r (current r) members) each));
      rising = rise_filter (λ s. not s.held) 0 sizes all_rise;
    } in
    record {
      sizes = got.0;
      chosen = free_chosen (λ s. IsFree r s × Q s) (candidates sizes) got.0 own got.1;
      numbers = got.2;
    }
  where
    both_all : (ss : List Size) → AllByRecursion (IsSize r) ss → AllByRecursion Q ss
        → AllByRecursion (λ s. IsSize r s × Q s) ss
    both_all [] all more = tt
    both_all (s ∷ ss) all more = ((all.0, more.0), both_all ss all.1 more.1)

-- ---- the generations that are planned

used_in : (r : Record) (ss : List Size) → AllByRecursion (IsFree r) ss
    → AllByRecursion (λ g. is_among g (current r) ≡ true) (map (λ s. s.generation) ss)
used_in r [] all = tt
used_in r (s ∷ ss) all = (all.0.size.in_use, used_in r ss all.1)

built_in : (r : Record) (ss : List Size) → AllByRecursion (IsFree r) ss
    → AllByRecursion (λ g. is_built r g ≡ true) (map (λ s. s.generation) ss)
built_in r [] all = tt
built_in r (s ∷ ss) all = (all.0.size.built, built_in r ss all.1)

free_in : (r : Record) (ss : List Size) → AllByRecursion (IsFree r) ss
    → AllByRecursion (λ g. list_any (λ m. is_among g m.generations) (open_merges r) ≡ false)
    (map (λ s. s.generation) ss)
free_in r [] all = tt
free_in r (s ∷ ss) all = (all.0.free, free_in r ss all.1)

pub sizes_planned : (r : Record) (ss : List Size) → AreSizes (IsFree r) ss
    → IsPlanned r (map (λ s. s.generation) ss)
sizes_planned r ss are = record {
  in_use = λ g is. in_all (λ n. is_among n (current r) ≡ true) g (map (λ s. s.generation) ss) is
      (used_in r ss are.each);
  built = built_in r ss are.each;
  free = free_in r ss are.each;
  rising = are.rising;
}

nothing : (ss : List Size) → AllByRecursion (λ (s : Size). Unit {0}) ss
nothing [] = tt
nothing (s ∷ ss) = (tt, nothing ss)

pub planned_is : (r : Record) (gens : List ℕ) (n : ℕ) → RisesFrom n (current r)
    → merge_plan r ≡ Some gens → IsPlanned r gens
planned_is r gens n up is =
    let sizes = map (size_of r) (filter (is_built r) (current r)) in
    let made = choice r (λ _. Unit {0}) gens (rises_less 0 n (current r) (omega arith) up) is
    (nothing sizes) in
    subst (λ (gs : List ℕ). IsPlanned r gs) made.numbers
    (sizes_planned r made.sizes (record {
      each = all_weaker (λ s. IsFree r s × Unit {0}) (IsFree r) (λ s both. both.0) made.sizes
          made.chosen.are.each;
      rising = made.chosen.are.rising;
    }))
