-- The steps of the passes.
use Rattle.std.proofs.Common.{◌≡◌, ◌<◌, ◌≤◌, ◌+◌, ◌-◌, ◌*◌, ℕ, suc, Bool, true, false, not, ltb}
use Rattle.std.proofs.Common.{List, get_or, sym, ap, ◌∙◌, arith, Option, Some}
use Rattle.std.proofs.lemmas.Bool.{lt-ltb, le-ltb}
use Rattle.fst_code.specs.Bytes.{first_form, arcs_at}
use Rattle.fst_code.specs.Rules.{or_first, broken_if, labels_broken}

labels_by : (j k at n : ℕ) (arcs : List ℕ) → n - j ≡ suc (suc k) → n - (j + 1) ≡ suc k
    → labels_broken first_form (at + 13 * j) (arcs_at first_form (n - j) (13 * j) arcs)
    ≡ or_first (broken_if (not (ltb (get_or arcs (13 * j) 0) (get_or arcs (13 * (j + 1)) 0)))
    (at + 13 * (j + 1))) (labels_broken first_form (at + 13 * (j + 1))
    (arcs_at first_form (n - (j + 1)) (13 * (j + 1)) arcs))
labels_by j k at n arcs two one =
    let p : 13 * j + 13 ≡ 13 * (j + 1) = omega (arith) in
    let q : at + 13 * j + 13 ≡ at + 13 * (j + 1) = omega (arith) in
    ap (λ (m : ℕ). labels_broken first_form (at + 13 * j) (arcs_at first_form m (13 * j) arcs)) two
    ∙ ap (λ (m : ℕ). or_first (broken_if (not (ltb (get_or arcs (13 * j) 0) (get_or arcs m 0)))
    (at + 13 * j + 13)) (labels_broken first_form (at + 13 * j + 13)
    (arcs_at first_form (suc k) m arcs))) p
    ∙ ap (λ (m : ℕ). or_first (broken_if
    (not (ltb (get_or arcs (13 * j) 0) (get_or arcs (13 * (j + 1)) 0))) m)
    (labels_broken first_form m (arcs_at first_form (suc k) (13 * (j + 1)) arcs))) q
    ∙ ap (λ (m : ℕ). or_first (broken_if
    (not (ltb (get_or arcs (13 * j) 0) (get_or arcs (13 * (j + 1)) 0)))
    (at + 13 * (j + 1))) (labels_broken first_form (at + 13 * (j + 1))
    (arcs_at first_form m (13 * (j + 1)) arcs))) (sym one)

labels_next : (i at n : ℕ) (arcs : List ℕ) → 0 < i → i < n
    → labels_broken first_form (at + 13 * (i - 1))
    (arcs_at first_form (n - (i - 1)) (13 * (i - 1)) arcs)
    ≡ or_first (broken_if (not (ltb (get_or arcs (13 * i - 13) 0) (get_or arcs (13 * i) 0)))
    (at + 13 * i)) (labels_broken first_form (at + 13 * (i + 1 - 1))
    (arcs_at first_form (n - (i + 1 - 1)) (13 * (i + 1 - 1)) arcs))
labels_next i at n arcs pos h =
    let j = i - 1 in
    let is : j + 1 ≡ i = omega (arith, pos) in
    let x : 13 * j ≡ 13 * i - 13 = omega (arith, pos) in
    let y : i ≡ i + 1 - 1 = omega (arith) in
    labels_by j (n - i - 1) at n arcs (omega (arith, h, pos)) (omega (arith, h, pos))
    ∙ ap (λ (m : ℕ). or_first (broken_if
    (not (ltb (get_or arcs (13 * j) 0) (get_or arcs (13 * m) 0))) (at + 13 * m))
    (labels_broken first_form (at + 13 * m) (arcs_at first_form (n - m) (13 * m) arcs))) is
    ∙ ap (λ (m : ℕ). or_first (broken_if (not (ltb (get_or arcs m 0) (get_or arcs (13 * i) 0)))
    (at + 13 * i)) (labels_broken first_form (at + 13 * i)
    (arcs_at first_form (n - i) (13 * i) arcs))) x
    ∙ ap (λ (m : ℕ). or_first (broken_if
    (not (ltb (get_or arcs (13 * i - 13) 0) (get_or arcs (13 * i) 0))) (at + 13 * i))
    (labels_broken first_form (at + 13 * m) (arcs_at first_form (n - m) (13 * m) arcs))) y

chosen : (b : Bool) (at : ℕ) (rest whole part : Option ℕ)
    → part ≡ or_first (broken_if (not b) at) rest → part ≡ whole → b ≡ false → Some at ≡ whole
chosen false at rest whole part e inv f = sym e ∙ inv
chosen true at rest whole part e inv f = absurd cc

passed : (b : Bool) (at : ℕ) (rest whole part : Option ℕ)
    → part ≡ or_first (broken_if (not b) at) rest → part ≡ whole → b ≡ true → rest ≡ whole
passed true at rest whole part e inv t = sym e ∙ inv
passed false at rest whole part e inv t = absurd cc

pub labels_found : (i at n : ℕ) (arcs : List ℕ) (whole : Option ℕ) → 0 < i → i < n
    → labels_broken first_form (at + 13 * (i - 1))
    (arcs_at first_form (n - (i - 1)) (13 * (i - 1)) arcs) ≡ whole
    → get_or arcs (13 * i) 0 ≤ get_or arcs (13 * i - 13) 0 → Some (at + 13 * i) ≡ whole
labels_found i at n arcs whole pos h inv le =
    chosen (ltb (get_or arcs (13 * i - 13) 0) (get_or arcs (13 * i) 0)) (at + 13 * i) _ whole _
    (labels_next i at n arcs pos h) inv
    (le-ltb (get_or arcs (13 * i - 13) 0) (get_or arcs (13 * i) 0) le)

pub labels_passed : (i at n : ℕ) (arcs : List ℕ) (whole : Option ℕ) → 0 < i → i < n
    → labels_broken first_form (at + 13 * (i - 1))
    (arcs_at first_form (n - (i - 1)) (13 * (i - 1)) arcs) ≡ whole
    → get_or arcs (13 * i - 13) 0 < get_or arcs (13 * i) 0
    → labels_broken first_form (at + 13 * (i + 1 - 1))
    (arcs_at first_form (n - (i + 1 - 1)) (13 * (i + 1 - 1)) arcs) ≡ whole
labels_passed i at n arcs whole pos h inv lt =
    passed (ltb (get_or arcs (13 * i - 13) 0) (get_or arcs (13 * i) 0)) (at + 13 * i) _ whole _
    (labels_next i at n arcs pos h) inv
    (lt-ltb (get_or arcs (13 * i - 13) 0) (get_or arcs (13 * i) 0) lt)
