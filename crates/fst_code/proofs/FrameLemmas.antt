-- The steps of the passes over the name and the entries.
use Rattle.std.proofs.Common.{◌≡◌, ◌<◌, ◌+◌, ◌*◌, ◌-◌, ℕ, zero, suc, Bool, true, false, not}
use Rattle.std.proofs.Common.{◌&&◌, ltb, leb, eqb, List, refl, sym}
use Rattle.std.proofs.Common.{ap, ◌∙◌, arith, Option, Some, None}
use Rattle.std.proofs.lemmas.Bool.{eq-eqb, ne_eqb}
use Rattle.std.specs.Int.{w32}
use Rattle.fst_code.specs.Bytes.{number_at, numbers_at, node_count, arc_count, path_count}
use Rattle.fst_code.specs.Rules.{or_first, broken_if, ends_broken, ends_next}
use Rattle.fst_code.specs.Rules.{entries_broken, rule_4}
use Rattle.fst_code.proofs.ArcLemmas.{broken_some, broken_none}

or_none : (x : Option ℕ) → or_first x None ≡ x
or_none None = refl
or_none (Some a) = refl

and_true : (a : Bool) → (a && true) ≡ a
and_true true = refl
and_true false = refl

ends_last : (all at from : ℕ) (bytes : List ℕ)
    → ends_broken all at from (numbers_at 1 at bytes)
    ≡ or_first (broken_if (not (ends_next from (number_at w32 at bytes) true all)) at)
    (ends_broken all (at + 4) (number_at w32 at bytes) (numbers_at 0 (at + 4) bytes))
ends_last all at from bytes = sym
    (or_none (broken_if (not (ends_next from (number_at w32 at bytes) true all)) at))

ends_more : (n all at from : ℕ) (bytes : List ℕ)
    → ends_broken all at from (numbers_at (suc (suc n)) at bytes)
    ≡ or_first (broken_if (not (ends_next from (number_at w32 at bytes) false all)) at)
    (ends_broken all (at + 4) (number_at w32 at bytes) (numbers_at (suc n) (at + 4) bytes))
ends_more n all at from bytes =
    ap (λ (b : Bool). or_first (broken_if (not b) at)
    (ends_broken all (at + 4) (number_at w32 at bytes) (numbers_at (suc n) (at + 4) bytes)))
    (sym (and_true (ltb from (number_at w32 at bytes)
    && leb (number_at w32 at bytes) (from + 256))))

ends_by : (n all at from : ℕ) (last : Bool) (bytes : List ℕ) → (n ≡ 0 → last ≡ true)
    → (0 < n → last ≡ false) → ends_broken all at from (numbers_at (suc n) at bytes)
    ≡ or_first (broken_if (not (ends_next from (number_at w32 at bytes) last all)) at)
    (ends_broken all (at + 4) (number_at w32 at bytes) (numbers_at n (at + 4) bytes))
ends_by zero all at from last bytes t f =
    ends_last all at from bytes ∙ ap
    (λ (b : Bool). or_first (broken_if (not (ends_next from (number_at w32 at bytes) b all)) at)
    (ends_broken all (at + 4) (number_at w32 at bytes) (numbers_at 0 (at + 4) bytes)))
    (sym (t refl))
ends_by (suc n) all at from last bytes t f =
    ends_more n all at from bytes ∙ ap
    (λ (b : Bool). or_first (broken_if (not (ends_next from (number_at w32 at bytes) b all)) at)
    (ends_broken all (at + 4) (number_at w32 at bytes) (numbers_at (suc n) (at + 4) bytes)))
    (sym (f (omega arith)))

ends_step : (id count all from : ℕ) (bytes : List ℕ) → id < count
    → ends_broken all (16 + 4 * id) from (numbers_at (count - id) (16 + 4 * id) bytes)
    ≡ or_first (broken_if (not (ends_next from (number_at w32 (16 + 4 * id) bytes)
    (eqb (id + 1) count) all)) (16 + 4 * id))
    (ends_broken all (16 + 4 * (id + 1)) (number_at w32 (16 + 4 * id) bytes)
    (numbers_at (count - (id + 1)) (16 + 4 * (id + 1)) bytes))
ends_step id count all from bytes h =
    let n : count - id ≡ suc (count - (id + 1)) = omega (arith, h) in
    let p : 16 + 4 * id + 4 ≡ 16 + 4 * (id + 1) = omega (arith) in
    ap (λ (k : ℕ). ends_broken all (16 + 4 * id) from (numbers_at k (16 + 4 * id) bytes)) n
    ∙ ends_by (count - (id + 1)) all (16 + 4 * id) from (eqb (id + 1) count) bytes
    (λ z. eq-eqb (id + 1) count (omega (arith, z, h)))
    (λ z. ne_eqb (id + 1) count (λ e. omega (arith, z, h, e)))
    ∙ ap (λ (k : ℕ). or_first (broken_if
    (not (ends_next from (number_at w32 (16 + 4 * id) bytes) (eqb (id + 1) count) all))
    (16 + 4 * id)) (ends_broken all k (number_at w32 (16 + 4 * id) bytes)
    (numbers_at (count - (id + 1)) k bytes))) p

pub ends_found : (id count all from e : ℕ) (b : Bool) (bytes : List ℕ) (whole : Option ℕ)
    → id < count → e ≡ number_at w32 (16 + 4 * id) bytes
    → b ≡ ends_next from e (eqb (id + 1) count) all → b ≡ false
    → ends_broken all (16 + 4 * id) from (numbers_at (count - id) (16 + 4 * id) bytes) ≡ whole
    → Some (16 + 4 * id) ≡ whole
ends_found id count all from e b bytes whole h is n f inv =
    broken_some (ends_next from (number_at w32 (16 + 4 * id) bytes) (eqb (id + 1) count) all)
    (16 + 4 * id) _ whole _ (ends_step id count all from bytes h) inv
    (ap (λ (k : ℕ). ends_next from k (eqb (id + 1) count) all) (sym is) ∙ sym n ∙ f)

pub ends_passed : (id count all from e : ℕ) (b : Bool) (bytes : List ℕ) (whole : Option ℕ)
    → id < count → e ≡ number_at w32 (16 + 4 * id) bytes
    → b ≡ ends_next from e (eqb (id + 1) count) all → b ≡ true
    → ends_broken all (16 + 4 * id) from (numbers_at (count - id) (16 + 4 * id) bytes) ≡ whole
    → ends_broken all (16 + 4 * (id + 1)) e
    (numbers_at (count - (id + 1)) (16 + 4 * (id + 1)) bytes) ≡ whole
ends_passed id count all from e b bytes whole h is n t inv =
    ap (λ (k : ℕ). ends_broken all (16 + 4 * (id + 1)) k
    (numbers_at (count - (id + 1)) (16 + 4 * (id + 1)) bytes)) is ∙
    broken_none (ends_next from (number_at w32 (16 + 4 * id) bytes) (eqb (id + 1) count) all)
    (16 + 4 * id) _ whole _ (ends_step id count all from bytes h) inv
    (ap (λ (k : ℕ). ends_next from k (eqb (id + 1) count) all) (sym is) ∙ sym n ∙ t)

two_entries : (n all paths : ℕ) (bytes : List ℕ)
    → entries_broken all paths (numbers_at (suc (suc n)) 16 bytes)
    ≡ or_first (broken_if (not (eqb (number_at w32 16 bytes) 0)) 16)
    (ends_broken all 20 0 (numbers_at (suc n) 20 bytes))
two_entries n all paths bytes = refl

rule_4_is : (bytes : List ℕ) → 1 < node_count bytes
    → rule_4 bytes ≡ or_first (broken_if (not (eqb (number_at w32 16 bytes) 0)) 16)
    (ends_broken (arc_count bytes) 20 0 (numbers_at (node_count bytes - 1) 20 bytes))
rule_4_is bytes h =
    let n : node_count bytes ≡ suc (suc (node_count bytes - 2)) = omega (arith, h) in
    let m : suc (node_count bytes - 2) ≡ node_count bytes - 1 = omega (arith, h) in
    ap (λ (k : ℕ). entries_broken (arc_count bytes) (path_count bytes) (numbers_at k 16 bytes)) n
    ∙ two_entries (node_count bytes - 2) (arc_count bytes) (path_count bytes) bytes
    ∙ ap (λ (k : ℕ). or_first (broken_if (not (eqb (number_at w32 16 bytes) 0)) 16)
    (ends_broken (arc_count bytes) 20 0 (numbers_at k 20 bytes))) m

pub first_wrong : (bytes : List ℕ) → 1 < node_count bytes → (number_at w32 16 bytes ≡ 0 → ⊥)
    → Some 16 ≡ rule_4 bytes
first_wrong bytes h ne =
    broken_some (eqb (number_at w32 16 bytes) 0) 16 _ (rule_4 bytes) _ (rule_4_is bytes h) refl
    (ne_eqb (number_at w32 16 bytes) 0 ne)

pub first_right : (bytes : List ℕ) (count all : ℕ) (result : Option ℕ) → count ≡ node_count bytes
    → all ≡ arc_count bytes → 1 < count → number_at w32 16 bytes ≡ 0
    → result ≡ ends_broken all 20 0 (numbers_at (count - 1) 20 bytes) → result ≡ rule_4 bytes
first_right bytes count all result n a h z e =
    let one : 1 < node_count bytes = omega (arith, n, h) in
    let m : count - 1 ≡ node_count bytes - 1 = ap (λ (k : ℕ). k - 1) n in
    e ∙ ap (λ (x : ℕ). ends_broken x 20 0 (numbers_at (count - 1) 20 bytes)) a
    ∙ ap (λ (k : ℕ). ends_broken (arc_count bytes) 20 0 (numbers_at k 20 bytes)) m
    ∙ broken_none (eqb (number_at w32 16 bytes) 0) 16 _ (rule_4 bytes) _ (rule_4_is bytes one) refl
    (eq-eqb (number_at w32 16 bytes) 0 z)
