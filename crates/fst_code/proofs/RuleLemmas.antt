-- Valid nodes break no rule.
use Rattle.std.proofs.Common.{◌≡◌, ◌<◌, ◌≤◌, ◌+◌, ◌-◌, ◌*◌, ◌^◌, ℕ, zero, suc, Bool, true, false}
use Rattle.std.proofs.Common.{not, ◌||◌, eqb, ltb, eq-eqb, List, [], ◌∷◌, ◌++◌, length, get_or}
use Rattle.std.proofs.Common.{refl, sym, ap, subst, ◌∙◌, arith, append_assoc, length-append, ◌⊎◌}
use Rattle.std.proofs.Common.{inl, inr, Option, Some, None}
use Rattle.std.specs.List.{AllByRecursion}
use Rattle.std.proofs.lemmas.Bool.{cases_eq, lt-ltb, le-ltb}
use Rattle.std.proofs.lemmas.List.{get_or_append_left}
use Rattle.sg_base.specs.declared.node.Edge.{Edge}
use Rattle.sg_base.specs.Nodes.{same_edges, holds_same}
use Rattle.fst_code.specs.Tails.{table, dearest, longest, counts}
use Rattle.fst_code.specs.Bytes.{Form, first_form, wide, entry}
use Rattle.fst_code.specs.Rules.{or_first, broken_if, over, in_nodes, labels_broken, targets_broken}
use Rattle.fst_code.specs.Rules.{counts_broken, rule_7, repeated, is_free, free_broken, over_most}
use Rattle.fst_code.specs.Rules.{postorder, from_to, misplaced, firsts, nodes_broken}
use Rattle.fst_code.specs.ValidNodes.{Rising, CountedFrom, AreValid}

lt_is : (a b : ℕ) → a < b → ltb a b ≡ true
lt_is a b h = lt-ltb a b h

not_lt : (a b : ℕ) → b ≤ a → ltb a b ≡ false
not_lt a b h = le-ltb a b h

second : (a b c : Bool) → b ≡ true → (a || b || c) ≡ true
second true b c e = refl
second false b c e = rw e refl

third : (a b c : Bool) → c ≡ true → (a || b || c) ≡ true
third true b c e = refl
third false true c e = refl
third false false c e = e

one : (a b c : Bool) → a ≡ true → (a || b || c) ≡ true
one a b c e = rw e refl

pub broken_not : (b : Bool) (at : ℕ) → b ≡ true → broken_if (not b) at ≡ None
broken_not true at e = refl
broken_not false at e = absurd cc

pub broken_false : (b : Bool) (at : ℕ) → b ≡ false → broken_if b at ≡ None
broken_false false at e = refl
broken_false true at e = absurd cc

pub both_none : {A : Type 0} (x y : Option A) → x ≡ None → y ≡ None → or_first x y ≡ None
both_none None y e f = f
both_none (Some a) y e f = absurd cc

pub over_none : (f : Form) (test : ℕ → ℕ → List Edge → Option ℕ) (id at : ℕ) (ns : List (List Edge))
    → ((k a : ℕ) → k < length ns → test (id + k) a (get_or ns k []) ≡ None)
    → over f test id at ns ≡ None
over_none f test id at [] each = refl
over_none f test id at (n ∷ ns) each =
    let z : id + 0 ≡ id = omega (arith) in
    both_none (test id at n) (over f test (id + 1) (at + wide f * length n) ns)
    (ap (λ (k : ℕ). test k at n) (sym z) ∙ each 0 at (omega arith))
    (over_none f test (id + 1) (at + wide f * length n) ns
    (λ k a h. let s : id + 1 + k ≡ id + suc k =
    omega (arith) in ap (λ (i : ℕ). test i a (get_or ns k [])) s
    ∙ each (suc k) a (omega (arith, h))))

pub labels_none : (f : Form) (at : ℕ) (es : List Edge) → Rising es → labels_broken f at es ≡ None
labels_none f at [] h = refl
labels_none f at (e ∷ []) h = refl
labels_none f at (e ∷ d ∷ es) h =
    both_none (broken_if (not (ltb e.label d.label)) (at + wide f))
    (labels_broken f (at + wide f) (d ∷ es))
    (broken_not (ltb e.label d.label) (at + wide f) (lt_is e.label d.label h.0))
    (labels_none f (at + wide f) (d ∷ es) h.1)

pub targets_none : (f : Form) (id at : ℕ) (es : List Edge)
    → AllByRecursion (λ (e : Edge). e.target.0 < id) es → targets_broken f id at es ≡ None
targets_none f id at [] h = refl
targets_none f id at (e ∷ es) h =
    both_none (broken_if (not (ltb e.target.0 id)) _) (targets_broken f id (at + wide f) es)
    (broken_not (ltb e.target.0 id) _ (lt_is e.target.0 id h.0))
    (targets_none f id (at + wide f) es h.1)

pub counts_none : (f : Form) (known : List ℕ) (sofar at : ℕ) (es : List Edge)
    → CountedFrom known sofar es → counts_broken f known sofar at es ≡ None
counts_none f known sofar at [] h = refl
counts_none f known sofar at (e ∷ es) h =
    both_none (broken_if (not (eqb e.before sofar)) _)
    (counts_broken f known (sofar + get_or known e.target.0 0) (at + wide f) es)
    (broken_not (eqb e.before sofar) _ (eq-eqb e.before sofar h.0))
    (counts_none f known (sofar + get_or known e.target.0 0) (at + wide f) es h.1)

or_false : (a b : Bool) → a ≡ false → b ≡ false → (a || b) ≡ false
or_false a b e f = rw (e, f) refl

holds_none : (n : List Edge) (ns : List (List Edge))
    → ((i : ℕ) → i < length ns → same_edges (get_or ns i []) n ≡ false) → holds_same n ns ≡ false
holds_none n [] each = refl
holds_none n (m ∷ ms) each = or_false (same_edges m n) (holds_same n ms) (each 0 (omega arith))
    (holds_none n ms (λ i h. each (suc i) (omega (arith, h))))

get_or_at_length : (xs ys : List (List Edge)) (n : List Edge)
    → get_or (xs ++ n ∷ ys) (length xs) [] ≡ n
get_or_at_length [] ys n = refl
get_or_at_length (x ∷ xs) ys n = get_or_at_length xs ys n

repeated_none : (id : ℕ) (earlier ns : List (List Edge))
    → ((i j : ℕ) → i < j → j < length (earlier ++ ns)
    → same_edges (get_or (earlier ++ ns) i []) (get_or (earlier ++ ns) j []) ≡ false)
    → repeated id earlier ns ≡ None
repeated_none id earlier [] once = refl
repeated_none id earlier (n ∷ ns) once =
    let all = earlier ++ n ∷ ns in
    let len : length all ≡ length earlier + length (n ∷ ns) = length-append earlier (n ∷ ns) in
    let here : holds_same n earlier ≡ false = holds_none n earlier (λ i h.
    ap (λ (x : List Edge). same_edges x n) (sym (get_or_append_left earlier (n ∷ ns) [] i h))
    ∙ ap (same_edges (get_or all i [])) (sym (get_or_at_length earlier ns n))
    ∙ once i (length earlier) h (omega (arith, len))) in
    let moved : (earlier ++ n ∷ []) ++ ns ≡ all = append_assoc earlier (n ∷ []) ns in
    both_none (broken_if (holds_same n earlier) (entry id))
    (repeated (id + 1) (earlier ++ n ∷ []) ns)
    (broken_false (holds_same n earlier) (entry id) here)
    (repeated_none (id + 1) (earlier ++ n ∷ []) ns
    (subst (λ (xs : List (List Edge)). (i j : ℕ) → i < j → j < length xs
    → same_edges (get_or xs i []) (get_or xs j []) ≡ false) (sym moved) once))

over_most_none : (most id : ℕ) (xs : List ℕ) → ((i : ℕ) → get_or xs i 0 ≤ most)
    → over_most most id xs ≡ None
over_most_none most id [] each = refl
over_most_none most id (x ∷ xs) each =
    both_none (broken_if (ltb most x) (entry id)) (over_most most (id + 1) xs)
    (broken_false (ltb most x) (entry id) (not_lt most x (each 0)))
    (over_most_none most (id + 1) xs (λ i. each (suc i)))

misplaced_none : (n id : ℕ) → misplaced n id (from_to n id) ≡ None
misplaced_none zero id = refl
misplaced_none (suc n) id = both_none (broken_if (not (eqb id id)) (entry id))
    (misplaced n (id + 1) (from_to n (id + 1)))
    (broken_not (eqb id id) (entry id) (eq-eqb id id refl)) (misplaced_none n (id + 1))

free_cases : (count id : ℕ) (es : List Edge) → (0 < id → id + 1 < count → is_free es ≡ true)
    → id < count → (id ≡ 0) ⊎ (id ≡ 0 → ⊥) → (id + 1 ≡ count) ⊎ (id + 1 ≡ count → ⊥)
    → (is_free es || (eqb id 0) || (eqb (id + 1) count)) ≡ true
free_cases count id es h l (inl e) root =
    second (is_free es) (eqb id 0) (eqb (id + 1) count) (eq-eqb id 0 e)
free_cases count id es h l (inr ne) (inl e) =
    third (is_free es) (eqb id 0) (eqb (id + 1) count) (eq-eqb (id + 1) count e)
free_cases count id es h l (inr ne) (inr other) =
    one (is_free es) (eqb id 0) (eqb (id + 1) count)
    (h (omega (arith, ne)) (omega (arith, l, other)))

pub rules_hold : (paths : ℕ) (ns : List (List Edge)) → AreValid paths ns
    → firsts (nodes_broken first_form paths ns) ≡ None
rules_hold paths ns s =
    let f = first_form in
    let five : in_nodes f (λ id at n. labels_broken f at n) ns ≡ None =
    over_none f (λ id at n. labels_broken f at n) 0 (entry (length ns)) ns
    (λ k a h. labels_none f a (get_or ns k []) (s.rising k)) in
    let six : in_nodes f (λ id at n. targets_broken f id at n) ns ≡ None =
    over_none f (λ id at n. targets_broken f id at n) 0 (entry (length ns)) ns
    (λ k a h. let z : k ≡ 0 + k = omega (arith) in
    targets_none f (0 + k) a (get_or ns k [])
    (subst (λ (i : ℕ). AllByRecursion (λ (e : Edge). e.target.0 < i) (get_or ns k [])) z
    (s.below k))) in
    let seven_each : in_nodes f (λ id at n. or_first (counts_broken f (counts ns) 0 at n)
    (broken_if (ltb (2 ^ 22) (get_or (counts ns) id 0)) (entry id))) ns ≡ None =
    over_none f (λ id at n. or_first (counts_broken f (counts ns) 0 at n)
    (broken_if (ltb (2 ^ 22) (get_or (counts ns) id 0)) (entry id))) 0 (entry (length ns))
    ns
    (λ k a h. both_none (counts_broken f (counts ns) 0 a (get_or ns k [])) _
    (counts_none f (counts ns) 0 a (get_or ns k []) (s.before k))
    (broken_false (ltb (2 ^ 22) (get_or (counts ns) (0 + k) 0)) (entry (0 + k))
    (not_lt (2 ^ 22) (get_or (counts ns) (0 + k) 0) (s.many (0 + k))))) in
    let seven : rule_7 f paths ns ≡ None =
    both_none _ (broken_if (not (eqb paths (get_or (counts ns) (length ns - 1) 0))) 12)
    seven_each (broken_not (eqb paths (get_or (counts ns) (length ns - 1) 0)) 12
    (eq-eqb paths (get_or (counts ns) (length ns - 1) 0) s.paths_are)) in
    let eight : repeated 0 [] ns ≡ None = repeated_none 0 [] ns s.once in
    let nine : in_nodes f (λ id at n. free_broken (length ns) id n) ns ≡ None =
    over_none f (λ id at n. free_broken (length ns) id n) 0 (entry (length ns)) ns
    (λ k a h. broken_not (is_free (get_or ns k []) || (eqb (0 + k) 0)
    || (eqb (0 + k + 1) (length ns))) (entry (0 + k))
    (free_cases (length ns) (0 + k) (get_or ns k [])
    (λ p q. s.free k (omega (arith, p)) (omega (arith, q))) (omega (arith, h))
    (cases_eq (0 + k) 0) (cases_eq (0 + k + 1) (length ns)))) in
    let ten : over_most 2147483647 0 (table dearest [] ns) ≡ None =
    over_most_none 2147483647 0 (table dearest [] ns) s.dear in
    let eleven : over_most 324 0 (table longest [] ns) ≡ None =
    over_most_none 324 0 (table longest [] ns) s.long in
    let twelve : misplaced (length ns) 0 (postorder (length ns) ns (length ns - 1) []) ≡ None =
    ap (misplaced (length ns) 0) s.walk ∙ misplaced_none (length ns) 0 in
    rw (five, six, seven, eight, nine, ten, eleven, twelve) refl
