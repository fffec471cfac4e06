-- The steps of the passes inside a node.
use Rattle.std.proofs.Common.{◌≡◌, ◌<◌, ◌≤◌, ◌+◌, ◌*◌, ℕ, suc, Bool, true, false, not, ◌||◌, ltb}
use Rattle.std.proofs.Common.{eqb, List, ◌∷◌, drop, get_or, length, refl, sym, ap, ◌∙◌, arith}
use Rattle.std.proofs.Common.{Option, Some}
use Rattle.std.proofs.Math.Seq.{drop-cons}
use Rattle.std.proofs.lemmas.Bool.{lt-ltb, le-ltb, eq-eqb, ne_eqb}
use Rattle.sg_base.specs.declared.node.Edge.{Edge}
use Rattle.fst_code.specs.Bytes.{first_form}
use Rattle.fst_code.specs.Rules.{or_first, broken_if, targets_broken, is_free}

pub drop_arc : (i : ℕ) (es : List Edge) (e : Edge) → i < length es → e ≡ get_or es i e
    → drop i es ≡ e ∷ drop (i + 1) es
drop_arc i es e h is =
    let s : suc i ≡ i + 1 = omega (arith) in
    drop-cons es i e h ∙ ap (λ (x : Edge). x ∷ drop (suc i) es) (sym is)
    ∙ ap (λ (k : ℕ). e ∷ drop k es) s

pub broken_some : (b : Bool) (at : ℕ) (rest whole part : Option ℕ)
    → part ≡ or_first (broken_if (not b) at) rest → part ≡ whole → b ≡ false → Some at ≡ whole
broken_some false at rest whole part e inv f = sym e ∙ inv
broken_some true at rest whole part e inv f = absurd cc

pub broken_none : (b : Bool) (at : ℕ) (rest whole part : Option ℕ)
    → part ≡ or_first (broken_if (not b) at) rest → part ≡ whole → b ≡ true → rest ≡ whole
broken_none true at rest whole part e inv t = sym e ∙ inv
broken_none false at rest whole part e inv t = absurd cc

targets_next : (id at i : ℕ) (es : List Edge) (e : Edge) → i < length es → e ≡ get_or es i e
    → targets_broken first_form id (at + 13 * i) (drop i es)
    ≡ or_first (broken_if (not (ltb e.target.0 id)) (at + 13 * i + 9))
    (targets_broken first_form id (at + 13 * (i + 1)) (drop (i + 1) es))
targets_next id at i es e h is =
    let p : at + 13 * i + 13 ≡ at + 13 * (i + 1) = omega (arith) in
    ap (targets_broken first_form id (at + 13 * i)) (drop_arc i es e h is)
    ∙ ap (λ (m : ℕ). or_first (broken_if (not (ltb e.target.0 id)) (at + 13 * i + 9))
    (targets_broken first_form id m (drop (i + 1) es))) p

pub targets_found : (id at i : ℕ) (es : List Edge) (e : Edge) (whole : Option ℕ) → i < length es
    → e ≡ get_or es i e → targets_broken first_form id (at + 13 * i) (drop i es) ≡ whole
    → id ≤ e.target.0 → Some (at + 13 * i + 9) ≡ whole
targets_found id at i es e whole h is inv le =
    broken_some (ltb e.target.0 id) (at + 13 * i + 9) _ whole _ (targets_next id at i es e h is) inv
    (le-ltb e.target.0 id le)

pub targets_passed : (id at i : ℕ) (es : List Edge) (e : Edge) (whole : Option ℕ) → i < length es
    → e ≡ get_or es i e → targets_broken first_form id (at + 13 * i) (drop i es) ≡ whole
    → e.target.0 < id → targets_broken first_form id (at + 13 * (i + 1)) (drop (i + 1) es) ≡ whole
targets_passed id at i es e whole h is inv lt =
    broken_none (ltb e.target.0 id) (at + 13 * i + 9) _ whole _ (targets_next id at i es e h is) inv
    (lt-ltb e.target.0 id lt)

free_true : (b c : Bool) → b ≡ true → (b || c) ≡ true
free_true true c h = refl
free_true false c h = absurd cc

free_false : (b c : Bool) → b ≡ false → (b || c) ≡ c
free_false false c h = refl
free_false true c h = absurd cc

pub free_found : (i : ℕ) (es : List Edge) (e : Edge) (whole : Bool) → i < length es
    → e ≡ get_or es i e → is_free (drop i es) ≡ whole → e.cost ≡ 0 → true ≡ whole
free_found i es e whole h is inv z =
    sym (ap is_free (drop_arc i es e h is)
    ∙ free_true (eqb e.cost 0) (is_free (drop (i + 1) es)) (eq-eqb e.cost 0 z)) ∙ inv

pub free_passed : (i : ℕ) (es : List Edge) (e : Edge) (whole : Bool) → i < length es
    → e ≡ get_or es i e → is_free (drop i es) ≡ whole → (e.cost ≡ 0 → ⊥)
    → is_free (drop (i + 1) es) ≡ whole
free_passed i es e whole h is inv z =
    sym (ap is_free (drop_arc i es e h is)
    ∙ free_false (eqb e.cost 0) (is_free (drop (i + 1) es)) (ne_eqb e.cost 0 z)) ∙ inv
