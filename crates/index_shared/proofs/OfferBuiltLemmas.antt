-- How many segments are built where generations are refreshed one after another in one record.
use Rattle.std.proofs.Common.{◌≡◌, ◌<◌, ◌+◌, ℕ, Bool, true, false, cond, not, nat_eq, ◌&&◌, List}
use Rattle.std.proofs.Common.{[], ◌∷◌, refl, sym, ap, ◌∙◌, subst, arith}
use Rattle.std.specs.Prelude.{sum_by, count_by}
use Rattle.std.specs.List.{AllByRecursion}
use Rattle.std.proofs.lemmas.Bool.Decides.{nat_tests}
use Rattle.std.proofs.lemmas.List.Sums.{sum_by-cons}
use Rattle.index_core.specs.Histories.{built, live_docs_updated, Record, is_among}
use Rattle.index_core.specs.Records.{with_event, current}
use Rattle.index_core.specs.Generations.{is_built}
use Rattle.index_core.specs.HeldGenerations.{RisesFrom}
use Rattle.index_core.specs.CurrentPieces.{is_unbuilt, after_built, is_behind, after_lived}
use Rattle.index_core.proofs.EventLemmas.{current-skip}
use Rattle.index_core.proofs.GenerationLemmas.{built_stays, built_other}
use Rattle.index_shared.specs.Offers.{refreshed, segments_due}

-- ---- one generation, and the others

current_built : (c g : ℕ) (r : Record) → current (after_built c g r) ≡ current r
current_built c g r = by_test (is_unbuilt r g)
  where
    by_test : (b : Bool) → current (cond b (with_event r (built c g)) r) ≡ current r
    by_test true = current-skip r.history (built c g) (λ n. refl) refl refl
    by_test false = refl

current_lived : (c g upto : ℕ) (r : Record) → current (after_lived c g upto r) ≡ current r
current_lived c g upto r = by_test (is_behind r g upto)
  where
    by_test : (b : Bool)
        → current (cond b (with_event r (live_docs_updated c g upto)) r) ≡ current r
    by_test true = current-skip r.history (live_docs_updated c g upto) (λ n. refl) refl refl
    by_test false = refl

current_refreshed : (c upto : ℕ) (r : Record) (g : ℕ)
    → current (refreshed c upto r g) ≡ current r
current_refreshed c upto r g =
    current_lived c g upto (after_built c g r) ∙ current_built c g r

other_built : (c g x : ℕ) (r : Record) → nat_eq x g ≡ false
    → is_built (after_built c g r) x ≡ is_built r x
other_built c g x r other = by_test (is_unbuilt r g)
  where
    by_test : (b : Bool) → is_built (cond b (with_event r (built c g)) r) x ≡ is_built r x
    by_test true = built_other r c x g other
    by_test false = refl

other_lived : (c g x upto : ℕ) (r : Record)
    → is_built (after_lived c g upto r) x ≡ is_built r x
other_lived c g x upto r = by_test (is_behind r g upto)
  where
    by_test : (b : Bool)
        → is_built (cond b (with_event r (live_docs_updated c g upto)) r) x ≡ is_built r x
    by_test true = built_stays r (live_docs_updated c g upto) x refl
    by_test false = refl

other_refreshed : (c upto : ℕ) (r : Record) (g x : ℕ) → nat_eq x g ≡ false
    → is_built (refreshed c upto r g) x ≡ is_built r x
other_refreshed c upto r g x other =
    other_lived c g x upto (after_built c g r) ∙ other_built c g x r other

-- ---- how many segments are built

-- how many segments are built where generations are refreshed one after another
abbrev pub built_along : ℕ → ℕ → Record → List ℕ → ℕ
built_along c upto r [] = 0
built_along c upto r (g ∷ gs) = segments_due r g + built_along c upto (refreshed c upto r g) gs

-- 1 for a generation without a segment
abbrev unbuilt_one : Record → ℕ → ℕ
unbuilt_one r g = cond (not (is_built r g)) 1 0

counts_same : (c upto : ℕ) (r : Record) (g n : ℕ) (gs : List ℕ) → g < n → RisesFrom n gs
    → count_by (λ x. not (is_built (refreshed c upto r g) x)) gs
    ≡ count_by (λ x. not (is_built r x)) gs
counts_same c upto r g n [] less rise = refl
counts_same c upto r g n (x ∷ gs) less rise =
    let s = refreshed c upto r g in
    let above = rise.0 in
    let other : nat_eq x g ≡ false = grind (arith, nat_tests, less, above) in
    let later = counts_same c upto r g (x + 1) gs (omega (arith, less, above)) rise.1 in
    sum_by-cons (unbuilt_one s) x gs
    ∙ ap (λ (b : Bool). cond (not b) 1 0 + sum_by (unbuilt_one s) gs)
    (other_refreshed c upto r g x other)
    ∙ ap (λ (k : ℕ). unbuilt_one r x + k) later
    ∙ sym (sum_by-cons (unbuilt_one r) x gs)

pub built_along_is : (c upto n : ℕ) (r : Record) (gs : List ℕ) → RisesFrom n gs
    → AllByRecursion (λ g. is_among g (current r) ≡ true) gs
    → built_along c upto r gs ≡ count_by (λ g. not (is_built r g)) gs
built_along_is c upto n r [] rise in_use = refl
built_along_is c upto n r (g ∷ gs) rise in_use =
    let s = refreshed c upto r g in
    let still : AllByRecursion (λ x. is_among x (current s) ≡ true) gs =
    subst (λ (all : List ℕ). AllByRecursion (λ x. is_among x all ≡ true) gs)
    (sym (current_refreshed c upto r g)) in_use.1 in
    let later = built_along_is c upto (g + 1) s gs rise.1 still
    ∙ counts_same c upto r g (g + 1) gs (omega arith) rise.1 in
    ap (λ (b : Bool). cond (b && not (is_built r g)) 1 0 + built_along c upto s gs) in_use.0
    ∙ ap (λ (k : ℕ). unbuilt_one r g + k) later
    ∙ sym (sum_by-cons (unbuilt_one r) g gs)
