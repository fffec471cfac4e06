-- Valid nodes are canonical.
use Rattle.std.proofs.Common.{◌≡◌, ◌<◌, ◌+◌, ℕ, zero, suc, Bool, true, false, ◌||◌, eqb, eqb-true}
use Rattle.std.proofs.Common.{List, [], ◌∷◌, ◌++◌, map, length, get_or, refl, sym, ap, subst, ◌∙◌}
use Rattle.std.proofs.Common.{arith, ◌⊎◌, inl, inr}
use Rattle.std.specs.List.{AllByRecursion, flat_map}
use Rattle.sg_base.specs.declared.node.Edge.{Edge}
use Rattle.fst_code.specs.Tails.{Tail, tails, table, along, mapped}
use Rattle.fst_code.specs.Rules.{is_free}
use Rattle.fst_code.specs.ValidNodes.{AreValid}
use Rattle.fst_code.specs.Lists.{HasFree, IsCanonical}
use Rattle.fst_code.proofs.TableLemmas.{table_at, mapped_local}

free_append : (xs ys : List Tail) → HasFree xs ⊎ HasFree ys → HasFree (xs ++ ys)
free_append [] ys (inl h) = absurd h
free_append [] ys (inr h) = h
free_append (x ∷ xs) ys (inl (inl e)) = inl e
free_append (x ∷ xs) ys (inl (inr h)) = inr (free_append xs ys (inl h))
free_append (x ∷ xs) ys (inr h) = inr (free_append xs ys (inr h))

free_along : (e : Edge) (ts : List Tail) → e.cost ≡ 0 → HasFree ts → HasFree (map (along e) ts)
free_along e [] z h = absurd h
free_along e (t ∷ ts) z (inl k) = inl (omega (arith, z, k))
free_along e (t ∷ ts) z (inr h) = inr (free_along e ts z h)

either_free : (b : Bool) (e : Edge) → (b ≡ eqb e.cost 0) → (rest : Bool) → (b || rest) ≡ true
    → (e.cost ≡ 0) ⊎ (rest ≡ true)
either_free true e k rest h = inl (eqb-true e.cost 0 (sym k))
either_free false e k rest h = inr h

choose : (known : List (List Tail)) (e : Edge) (rest : List Tail) (more : Type 0)
    → HasFree (get_or known e.target.0 []) → (more → HasFree rest) → (e.cost ≡ 0) ⊎ more
    → HasFree (map (along e) (get_or known e.target.0 [])) ⊎ HasFree rest
choose known e rest more here there (inl z) = inl (free_along e (get_or known e.target.0 []) z here)
choose known e rest more here there (inr h) = inr (there h)

free_flat : (known : List (List Tail)) (id : ℕ) (es : List Edge)
    → ((i : ℕ) → i < id → HasFree (get_or known i []))
    → AllByRecursion (λ (e : Edge). e.target.0 < id) es → is_free es ≡ true
    → HasFree (flat_map (λ (x : Edge). map (along x) (get_or known x.target.0 [])) es)
free_flat known id [] each below h = absurd cc
free_flat known id (e ∷ es) each below h =
    free_append (map (along e) (get_or known e.target.0 []))
    (flat_map (λ (x : Edge). map (along x) (get_or known x.target.0 [])) es)
    (choose known e (flat_map (λ (x : Edge). map (along x) (get_or known x.target.0 [])) es)
    (is_free es ≡ true) (each e.target.0 below.0)
    (λ k. free_flat known id es each below.1 k)
    (either_free (eqb e.cost 0) e refl (is_free es) h))

free_mapped : (known : List (List Tail)) (id : ℕ) (es : List Edge)
    → ((i : ℕ) → i < id → HasFree (get_or known i []))
    → AllByRecursion (λ (e : Edge). e.target.0 < id) es → is_free es ≡ true
    → HasFree (mapped known es)
free_mapped known id [] each below h = absurd cc
free_mapped known id (e ∷ es) each below h = free_flat known id (e ∷ es) each below h

-- the recursion is on a bound over the number
pub free_below : (paths : ℕ) (ns : List (List Edge)) → AreValid paths ns → (bound id : ℕ)
    → id < bound → id + 1 < length ns → HasFree (tails ns id)
unfolding tails
free_below paths ns s zero id h l = absurd (omega (arith, h))
free_below paths ns s (suc bound) zero h l =
    let e : tails ns 0 ≡ ([], 0) ∷ [] =
    table_at [] mapped mapped_local ns 0 (omega (arith, l)) s.below
    ∙ ap (mapped (table mapped [] ns)) s.end_is in
    subst HasFree (sym e) (inl refl)
free_below paths ns s (suc bound) (suc id) h l =
    let e : tails ns (suc id) ≡ mapped (table mapped [] ns) (get_or ns (suc id) []) =
    table_at [] mapped mapped_local ns (suc id) (omega (arith, l)) s.below in
    subst HasFree (sym e)
    (free_mapped (table mapped [] ns) (suc id) (get_or ns (suc id) [])
    (λ i k. free_below paths ns s bound i (omega (arith, h, k)) (omega (arith, k, l)))
    (s.below (suc id)) (s.free (suc id) (omega arith) l))

pub valid_canonical : (paths : ℕ) (ns : List (List Edge)) → AreValid paths ns → IsCanonical ns
valid_canonical paths ns s = record
    { free = λ id l. free_below paths ns s (suc id) id (omega arith) l; once = s.once }
