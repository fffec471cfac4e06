-- The generations of a plan rise where those of the sizes do.
use Rattle.std.proofs.Common.{◌≡◌, ◌<◌, ◌+◌, ℕ, zero, suc, Bool, true, false, cond, List, []}
use Rattle.std.proofs.Common.{◌∷◌, length, take, get_or, Option, Some, None, Result, Ok, Err}
use Rattle.std.proofs.Common.{sym, subst, arith}
use Rattle.std.specs.Prelude.{map, filter, option_map, IfOk, IfSome}
use Rattle.std.specs.List.{AllByRecursion}
use Rattle.std.specs.List.Sorted.{IsStrictlyIncreasing}
use Rattle.std.proofs.lemmas.List.Elements.{recursion_from_All}
use Rattle.std.proofs.lemmas.List.Kept.{AllPairs-from_increasing}
use Rattle.merge_plan.specs.declared.size.Size.{Size}
use Rattle.merge_plan.specs.Levels.{first_of_level, is_of}

abbrev Over : ℕ → List Size → Type 0
Over g = AllByRecursion (λ s. g < s.generation)

abbrev Rise : List Size → Type 0
Rise [] = Unit {0}
Rise (s ∷ ss) = Over s.generation ss × Rise ss

over_from : (g : ℕ) (ss : List Size)
    → AllByRecursion (λ n. g < n) (map (λ s. s.generation) ss) → Over g ss
over_from g [] over = tt
over_from g (s ∷ ss) over = (over.0, over_from g ss over.1)

rise_from : (ss : List Size) → IsStrictlyIncreasing (map (λ s. s.generation) ss) → Rise ss
rise_from [] rises = tt
rise_from (s ∷ ss) rises =
    let gens : List ℕ = map (λ (z : Size). z.generation) ss in
    let pairs = AllPairs-from_increasing (s.generation ∷ gens) rises in (
      over_from s.generation ss (recursion_from_All (λ n. s.generation < n) gens
          (λ k d within. pairs 0 (suc k) d (omega arith) (omega (arith, within)))),
      rise_from ss (λ k within.
          pairs (suc k) (suc (k + 1)) 0 (omega arith) (omega (arith, within))),
    )

over-filter_at : (b : Bool) (g : ℕ) (s : Size) (ss : List Size) → g < s.generation → Over g ss
    → Over g (cond b (s ∷ ss) ss)
over-filter_at true g s ss first over = (first, over)
over-filter_at false g s ss first over = over

over-filter : (p : Size → Bool) (g : ℕ) (ss : List Size) → Over g ss → Over g (filter p ss)
over-filter p g [] over = tt
over-filter p g (s ∷ ss) over =
    over-filter_at (p s) g s (filter p ss) over.0 (over-filter p g ss over.1)

rise-filter_at : (b : Bool) (s : Size) (ss : List Size) → Over s.generation ss → Rise ss
    → Rise (cond b (s ∷ ss) ss)
rise-filter_at true s ss over rise = (over, rise)
rise-filter_at false s ss over rise = rise

rise-filter : (p : Size → Bool) (ss : List Size) → Rise ss → Rise (filter p ss)
rise-filter p [] rise = tt
rise-filter p (s ∷ ss) rise =
    rise-filter_at (p s) s (filter p ss) (over-filter p s.generation ss rise.0)
    (rise-filter p ss rise.1)

over-take : (n g : ℕ) (ss : List Size) → Over g ss → Over g (take n ss)
over-take zero g ss over = tt
over-take (suc n) g [] over = tt
over-take (suc n) g (s ∷ ss) over = (over.0, over-take n g ss over.1)

rise-take : (n : ℕ) (ss : List Size) → Rise ss → Rise (take n ss)
rise-take zero ss rise = tt
rise-take (suc n) [] rise = tt
rise-take (suc n) (s ∷ ss) rise = (over-take n s.generation ss rise.0, rise-take n ss rise.1)

next_greater : (s : Size) (ss : List Size) → Over s.generation ss → 0 < length ss
    → s.generation < get_or (map (λ z. z.generation) ss) 0 0
next_greater s [] over some = absurd (omega arith)
next_greater s (z ∷ zs) over some = over.0

rises_to : (ss : List Size) → Rise ss → (k : ℕ)
    → k + 1 < length (map (λ s. s.generation) ss)
    → get_or (map (λ s. s.generation) ss) k 0 < get_or (map (λ s. s.generation) ss) (k + 1) 0
rises_to [] rise k within = absurd (omega (arith, within))
rises_to (s ∷ []) rise k within = absurd (omega (arith, within))
rises_to (s ∷ z ∷ zs) rise zero within = rise.0.0
rises_to (s ∷ z ∷ zs) rise (suc k) within =
    let e : suc (k + 1) ≡ suc k + 1 = omega arith in
    subst (λ n. get_or (map (λ (y : Size). y.generation) (z ∷ zs)) k 0
    < get_or (map (λ (y : Size). y.generation) (s ∷ z ∷ zs)) n 0) e
    (rises_to (z ∷ zs) rise.1 k (omega (arith, within)))

-- those of the first ten of a level
pub rising_first : (level : ℕ) (sizes : List Size)
    → IsStrictlyIncreasing (map (λ s. s.generation) sizes)
    → IsStrictlyIncreasing (map (λ s. s.generation) (first_of_level level sizes))
rising_first level sizes rises =
    rises_to (first_of_level level sizes)
    (rise-take 10 (filter (is_of level) sizes)
    (rise-filter (is_of level) sizes (rise_from sizes rises)))

single : (g k : ℕ) → k + 1 < length (g ∷ []) → get_or (g ∷ []) k 0 < get_or (g ∷ []) (k + 1) 0
single g k within = absurd (omega (arith, within))

-- that of one alone
pub rising_one : (o : Option Size)
    → IfSome (option_map (λ s. s.generation ∷ []) o) IsStrictlyIncreasing
rising_one None = tt
rising_one (Some s) = single s.generation

-- what is so of a plan is so of the vector that has it
pub found_has : {V : Type 0} (items : V → List ℕ) (Q : List ℕ → Type 0) (found : Option V)
    (o : Option (List ℕ)) → option_map items found ≡ o → IfSome o Q
    → IfSome found (λ v. Q (items v))
found_has items Q None o is has = tt
found_has items Q (Some v) o is has = subst (λ z. IfSome z Q) (sym is) has

-- a weaker fact of what came back
pub ok_weaker : {T E : Type 0} (P Q : T → Type 0) → ((x : T) → P x → Q x) → (r : Result T E)
    → IfOk r P → IfOk r Q
ok_weaker P Q weaker (Ok x) is = weaker x is
ok_weaker P Q weaker (Err e) is = tt
