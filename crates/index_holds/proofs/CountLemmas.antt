-- What counts keep to: the last generation, and a holder that comes and goes.
use Rattle.std.proofs.Common.{◌≡◌, ◌<◌, ◌+◌, ◌-◌, ℕ, Bool, true, false, cond, nat_lt, List, []}
use Rattle.std.proofs.Common.{◌∷◌, ◌++◌, refl, ap, ◌∙◌, arith}
use Rattle.std.specs.Prelude.{map}
use Rattle.std.specs.List.{AllByRecursion}
use Rattle.std.proofs.lemmas.Bool.Decides.{nat_tests}
use Rattle.index_holds.specs.declared.held.Held.{Held}
use Rattle.index_holds.specs.Entries.{AreUsed}
use Rattle.index_holds.specs.Holders.{after_release, is_among, is_used, newly_current}
use Rattle.index_holds.specs.Holders.{with_current, with_holder, without_holder}

-- a generation that is greater than all comes last
pub with_current-last : (g : ℕ) (hs : List Held) → AllByRecursion (λ h. h.generation < g) hs
    → with_current g hs ≡ hs ++ newly_current g ∷ []
with_current-last g [] least = refl
with_current-last g (h ∷ hs) least =
    let less : h.generation < g = least.0 in
    let before : nat_lt h.generation g ≡ true = grind (arith, nat_tests) in
    rw before (ap (λ zs. h ∷ zs) (with_current-last g hs least.1))

undone_at : (b : Bool) (gens : List ℕ) (h : Held) → is_among h.generation gens ≡ b
    → without_holder gens (cond b (record h { holders = h.holders + 1 }) h) ≡ h
undone_at true gens h is =
    let back : (h.holders + 1) - 1 ≡ h.holders = omega arith in rw (is, back) refl
undone_at false gens h is = rw is refl

-- a holder that comes and goes
pub release-hold : (gens : List ℕ) (hs : List Held) → AreUsed hs
    → after_release gens (map (with_holder gens) hs) ≡ hs
release-hold gens [] used = refl
release-hold gens (h ∷ hs) used =
    let same : without_holder gens (with_holder gens h) ≡ h =
    undone_at (is_among h.generation gens) gens h refl in
    ap (λ z. cond (is_used z) (z ∷ after_release gens (map (with_holder gens) hs))
    (after_release gens (map (with_holder gens) hs))) same
    ∙ rw used.0 (ap (λ zs. h ∷ zs) (release-hold gens hs used.1))
