-- One pass over all sizes gives what the plan takes from the candidates.
use Rattle.std.proofs.Common.{◌≡◌, ◌-◌, ℕ, Bool, true, false, not}
use Rattle.std.proofs.Common.{cond, nat_eq, nat_lt, ◌&&◌, List, [], ◌∷◌, take, Option, Some}
use Rattle.std.proofs.Common.{None, refl, sym, ap, ◌∙◌}
use Rattle.std.specs.Prelude.{map, filter, find, option_map}
use Rattle.merge_plan.specs.declared.size.Size.{Size}
use Rattle.merge_plan.specs.Levels.{first_of_level, is_mostly_deleted, is_of}
use Rattle.merge_plan.specs.Merges.{candidates, digits, first_of, first_ten, full_level, is_full}
use Rattle.merge_plan.specs.Merges.{mostly_deleted, plan}

filter_at : (a : Bool) (p : Size → Bool) (x : Size) (xs ys : List Size) → xs ≡ filter p ys
    → cond (a && p x) (x ∷ xs) xs ≡ filter p (cond a (x ∷ ys) ys)
filter_at true p x xs ys same = ap (λ zs. cond (p x) (x ∷ zs) zs) same
filter_at false p x xs ys same = same

-- a filter after a filter
filter-both : (p q : Size → Bool) (xs : List Size)
    → filter (λ x. q x && p x) xs ≡ filter p (filter q xs)
filter-both p q [] = refl
filter-both p q (x ∷ xs) =
    filter_at (q x) p x (filter (λ y. q y && p y) xs) (filter q xs) (filter-both p q xs)

find_at : (a : Bool) (p : Size → Bool) (x : Size) (o : Option Size) (ys : List Size)
    → o ≡ find p ys → cond (a && p x) (Some x) o ≡ find p (cond a (x ∷ ys) ys)
find_at true p x o ys same = ap (λ z. cond (p x) (Some x) z) same
find_at false p x o ys same = same

-- the first that is found after a filter
find-filter : (p q : Size → Bool) (xs : List Size)
    → find (λ x. q x && p x) xs ≡ find p (filter q xs)
find-filter p q [] = refl
find-filter p q (x ∷ xs) =
    find_at (q x) p x (find (λ y. q y && p y) xs) (filter q xs) (find-filter p q xs)

first_same : (level : ℕ) (sizes : List Size)
    → first_ten (candidates sizes) level ≡ first_of_level level sizes
unfolding is_of
first_same level sizes =
    sym (ap (take 10) (filter-both (λ s. nat_eq (digits s.live) level) (λ s. not s.held) sizes))

deleted_same : (sizes : List Size)
    → find (λ s. nat_lt s.live (s.documents - s.live)) (candidates sizes)
    ≡ find is_mostly_deleted sizes
unfolding is_mostly_deleted
deleted_same sizes =
    sym (find-filter (λ s. nat_lt s.live (s.documents - s.live)) (λ s. not s.held) sizes)

map_at : (b : Bool) (g : ℕ → List Size) (level : ℕ) (o : Option (List Size)) (n : Option ℕ)
    → o ≡ option_map g n
    → cond b (Some (g level)) o ≡ option_map g (cond b (Some level) n)
map_at true g level o n same = refl
map_at false g level o n same = same

-- the first that is found in what a function makes of numbers
find-map : (p : List Size → Bool) (f g : ℕ → List Size) → ((n : ℕ) → f n ≡ g n) → (ns : List ℕ)
    → find p (map f ns) ≡ option_map g (find (λ n. p (g n)) ns)
find-map p f g same [] = refl
find-map p f g same (n ∷ ns) =
    ap (λ xs. cond (p xs) (Some xs) (find p (map f ns))) (same n)
    ∙ map_at (p (g n)) g n (find p (map f ns)) (find (λ m. p (g m)) ns)
    (find-map p f g same ns)

abbrev levels : List ℕ
levels = 1 ∷ 2 ∷ 3 ∷ 4 ∷ 5 ∷ 6 ∷ 7 ∷ 8 ∷ 9 ∷ 10 ∷ []

level_same : (sizes : List Size)
    → full_level (candidates sizes)
    ≡ option_map (λ level. first_of_level level sizes)
    (find (λ level. is_full (first_of_level level sizes)) levels)
level_same sizes =
    find-map is_full (first_ten (candidates sizes)) (λ level. first_of_level level sizes)
    (λ level. first_same level sizes) levels

-- where a level is full, its first ten are merged
pub plan-ten : (sizes : List Size) (level : ℕ)
    → find (λ n. is_full (first_of_level n sizes)) levels ≡ Some level
    → plan sizes ≡ Some (map (λ s. s.generation) (first_of_level level sizes))
plan-ten sizes level is =
    let full : full_level (candidates sizes) ≡ Some (first_of_level level sizes) =
    level_same sizes ∙ ap (option_map (λ n. first_of_level n sizes)) is in
    ap (λ o. option_map (map (λ (s : Size). s.generation))
    (first_of o (mostly_deleted (candidates sizes)))) full

alone : (o : Option Size)
    → option_map (map (λ (s : Size). s.generation)) (option_map (λ s. s ∷ []) o)
    ≡ option_map (λ s. s.generation ∷ []) o
alone None = refl
alone (Some s) = refl

-- else the first that is mostly deleted is, alone
pub plan-one : (sizes : List Size)
    → find (λ n. is_full (first_of_level n sizes)) levels ≡ None
    → plan sizes ≡ option_map (λ s. s.generation ∷ []) (find is_mostly_deleted sizes)
plan-one sizes is =
    let none : full_level (candidates sizes) ≡ None =
    level_same sizes ∙ ap (option_map (λ n. first_of_level n sizes)) is in
    ap (λ o. option_map (map (λ (s : Size). s.generation))
    (first_of o (mostly_deleted (candidates sizes)))) none
    ∙ alone (find (λ s. nat_lt s.live (s.documents - s.live)) (candidates sizes))
    ∙ ap (option_map (λ s. s.generation ∷ [])) (deleted_same sizes)
