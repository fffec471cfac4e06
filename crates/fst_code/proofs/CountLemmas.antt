-- The steps of the pass that counts paths.
use Rattle.std.proofs.Common.{◌≡◌, ◌<◌, ◌≤◌, ◌+◌, ◌-◌, ◌*◌, ◌^◌, ℕ, Bool, true, false, not, ltb}
use Rattle.std.proofs.Common.{eqb, List, [], ◌∷◌, ◌++◌, drop, get_or, length, refl, sym, ap, ◌∙◌}
use Rattle.std.proofs.Common.{arith, Option, Some, None}
use Rattle.std.specs.List.{sum_by}
use Rattle.std.proofs.Math.ListN.{drop_of_length-le}
use Rattle.std.proofs.lemmas.Bool.{lt-ltb, le-ltb, eq-eqb, ne_eqb}
use Rattle.std.proofs.lemmas.List.Sums.{sum_by-cons}
use Rattle.sg_base.specs.declared.node.Edge.{Edge}
use Rattle.fst_code.specs.Bytes.{first_form, nodes_of, path_count, entry}
use Rattle.fst_code.specs.Rules.{or_first, broken_if, in_nodes, targets_broken, counts_broken}
use Rattle.fst_code.specs.Rules.{rule_7}
use Rattle.fst_code.specs.Tails.{counted, counts, table}
use Rattle.fst_code.proofs.ArcLemmas.{drop_arc, broken_some, broken_none}
use Rattle.fst_code.proofs.TableLemmas.{Below, Falls, length-table}
use Rattle.fst_code.proofs.LoopLemmas.{falls_of}
use Rattle.fst_code.proofs.GrowLemmas.{Grown, grown_next, grown_keeps, grown_at}
use Rattle.fst_code.proofs.SweepLemmas.{Sweep, sweep_found, sweep_next, sweep_ends}

counts_next : (known : List ℕ) (sofar at i : ℕ) (es : List Edge) (e : Edge) → i < length es
    → e ≡ get_or es i e → counts_broken first_form known sofar (at + 13 * i) (drop i es)
    ≡ or_first (broken_if (not (eqb e.before sofar)) (at + 13 * i + 5))
    (counts_broken first_form known (sofar + get_or known e.target.0 0) (at + 13 * (i + 1))
    (drop (i + 1) es))
counts_next known sofar at i es e h is =
    let p : at + 13 * i + 13 ≡ at + 13 * (i + 1) = omega (arith) in
    ap (counts_broken first_form known sofar (at + 13 * i)) (drop_arc i es e h is)
    ∙ ap (λ (m : ℕ). or_first (broken_if (not (eqb e.before sofar)) (at + 13 * i + 5))
    (counts_broken first_form known (sofar + get_or known e.target.0 0) m
    (drop (i + 1) es))) p

pub counts_found : (known : List ℕ) (sofar at i : ℕ) (es : List Edge) (e : Edge) (whole : Option ℕ)
    → i < length es → e ≡ get_or es i e
    → counts_broken first_form known sofar (at + 13 * i) (drop i es) ≡ whole
    → (e.before ≡ sofar → ⊥) → Some (at + 13 * i + 5) ≡ whole
counts_found known sofar at i es e whole h is inv ne =
    broken_some (eqb e.before sofar) (at + 13 * i + 5) _ whole _
    (counts_next known sofar at i es e h is) inv (ne_eqb e.before sofar ne)

pub counts_passed : (known : List ℕ) (sofar at i k : ℕ) (es : List Edge) (e : Edge)
    (whole : Option ℕ) → i < length es → e ≡ get_or es i e
    → counts_broken first_form known sofar (at + 13 * i) (drop i es) ≡ whole → e.before ≡ sofar
    → k ≡ get_or known e.target.0 0
    → counts_broken first_form known (e.before + k) (at + 13 * (i + 1)) (drop (i + 1) es) ≡ whole
counts_passed known sofar at i k es e whole h is inv eq n =
    let s : e.before + k ≡ sofar + get_or known e.target.0 0 = omega (arith, eq, n) in
    ap (λ (m : ℕ). counts_broken first_form known m (at + 13 * (i + 1)) (drop (i + 1) es)) s
    ∙ broken_none (eqb e.before sofar) (at + 13 * i + 5) _ whole _
    (counts_next known sofar at i es e h is) inv (eq-eqb e.before sofar eq)

pub sum_passed : (known : List ℕ) (sofar i k whole : ℕ) (es : List Edge) (e : Edge) → i < length es
    → e ≡ get_or es i e → sofar + sum_by (λ (x : Edge). get_or known x.target.0 0) (drop i es)
    ≡ whole → e.before ≡ sofar → k ≡ get_or known e.target.0 0
    → e.before + k + sum_by (λ (x : Edge). get_or known x.target.0 0) (drop (i + 1) es) ≡ whole
sum_passed known sofar i k whole es e h is inv eq n =
    let a = ap (λ (x : List Edge). sum_by (λ (x : Edge). get_or known x.target.0 0) x)
    (drop_arc i es e h is) in
    let b = sum_by-cons (λ (x : Edge). get_or known x.target.0 0) e (drop (i + 1) es) in
    omega (arith, a, b, inv, eq, n)

-- only the entries of targets are looked at
counts_local : (a b : List ℕ) (sofar at k : ℕ) (es : List Edge) → Below k es
    → ((i : ℕ) → i < k → get_or a i 0 ≡ get_or b i 0)
    → counts_broken first_form a sofar at es ≡ counts_broken first_form b sofar at es
counts_local a b sofar at k [] below same = refl
counts_local a b sofar at k (e ∷ es) below same =
    ap (or_first (broken_if (not (eqb e.before sofar)) (at + 5)))
    (ap (λ (m : ℕ). counts_broken first_form a (sofar + m) (at + 13) es) (same e.target.0 below.0)
    ∙ counts_local a b (sofar + get_or b e.target.0 0) (at + 13) k es below.1 same)

-- the test of a node
abbrev pub miscounts : List (List Edge) → ℕ → ℕ → List Edge → Option ℕ
miscounts ns id at n = or_first (counts_broken first_form (counts ns) 0 at n)
    (broken_if (ltb (2 ^ 22) (get_or (counts ns) id 0)) (entry id))

pub record Counting (b : List ℕ) (id at : ℕ) (known : List ℕ) : Type 0 where
  pub sweep : Sweep (miscounts (nodes_of b)) b id at
  pub grown : Grown counted b id known

known_yet : (b : List ℕ) (id at at_arcs : ℕ) (known : List ℕ) (es : List Edge)
    → Counting b id at known → Falls (nodes_of b) → es ≡ get_or (nodes_of b) id []
    → counts_broken first_form known 0 at_arcs es
    ≡ counts_broken first_form (counts (nodes_of b)) 0 at_arcs es
known_yet b id at at_arcs known es c falls is =
    ap (counts_broken first_form known 0 at_arcs) is
    ∙ counts_local known (counts (nodes_of b)) 0 at_arcs id (get_or (nodes_of b) id []) (falls id)
    (λ i h. sym (grown_keeps counted b id i known c.grown h))
    ∙ ap (counts_broken first_form (counts (nodes_of b)) 0 at_arcs) (sym is)

first_some : (x y : Option ℕ) (at : ℕ) → Some at ≡ x → Some at ≡ or_first x y
first_some None y at e = absurd cc
first_some (Some a) y at e = e

second_if : (x : Option ℕ) (b : Bool) (at : ℕ) → None ≡ x → b ≡ true
    → Some at ≡ or_first x (broken_if b at)
second_if None true at e t = refl
second_if None false at e t = absurd cc
second_if (Some a) b at e t = absurd cc

neither : (x : Option ℕ) (b : Bool) (at : ℕ) → None ≡ x → b ≡ false
    → None ≡ or_first x (broken_if b at)
neither None false at e t = refl
neither None true at e t = absurd cc
neither (Some a) b at e t = absurd cc

pub counting_found : (b : List ℕ) (id at wide found : ℕ) (known : List ℕ) (es : List Edge)
    → Counting b id at known → in_nodes first_form (λ id at n. targets_broken first_form id at n)
    (nodes_of b) ≡ None → id < length (nodes_of b) → wide ≡ 13 * length es
    → es ≡ get_or (nodes_of b) id [] → Some found ≡ counts_broken first_form known 0 at es
    → Some found ≡ rule_7 first_form (path_count b) (nodes_of b)
counting_found b id at wide found known es c below h width is e =
    let ns = nodes_of b in
    first_some _ _ found (sweep_found (miscounts ns) b id at wide found es c.sweep h width is
    (first_some (counts_broken first_form (counts ns) 0 at es) _ found
    (e ∙ known_yet b id at at known es c (falls_of ns below) is)))

pub counting_many : (b : List ℕ) (id at wide paths : ℕ) (known : List ℕ) (es : List Edge)
    → Counting b id at known → in_nodes first_form (λ id at n. targets_broken first_form id at n)
    (nodes_of b) ≡ None → id < length (nodes_of b) → wide ≡ 13 * length es
    → es ≡ get_or (nodes_of b) id [] → None ≡ counts_broken first_form known 0 at es
    → paths ≡ counted known es → 4194304 < paths
    → Some (16 + 4 * id) ≡ rule_7 first_form (path_count b) (nodes_of b)
counting_many b id at wide paths known es c below h width is e n many =
    let ns = nodes_of b in
    let x = grown_at counted b id paths known es c.grown h is n in
    first_some _ _ (entry id) (sweep_found (miscounts ns) b id at wide (entry id) es c.sweep h width
    is
    (second_if (counts_broken first_form (counts ns) 0 at es)
    (ltb (2 ^ 22) (get_or (counts ns) id 0)) (entry id)
    (e ∙ known_yet b id at at known es c (falls_of ns below) is)
    (lt-ltb (2 ^ 22) (get_or (counts ns) id 0) (omega (arith, x, many)))))

pub counting_next : (b : List ℕ) (id at wide paths : ℕ) (known : List ℕ) (es : List Edge)
    → Counting b id at known → in_nodes first_form (λ id at n. targets_broken first_form id at n)
    (nodes_of b) ≡ None → id < length (nodes_of b) → wide ≡ 13 * length es
    → es ≡ get_or (nodes_of b) id [] → None ≡ counts_broken first_form known 0 at es
    → paths ≡ counted known es → paths ≤ 4194304
    → Counting b (id + 1) (at + wide) (known ++ paths ∷ [])
counting_next b id at wide paths known es c below h width is e n few =
    let ns = nodes_of b in
    let x = grown_at counted b id paths known es c.grown h is n in
    record {
      sweep = sweep_next (miscounts ns) b id at wide es c.sweep h width is
          (neither (counts_broken first_form (counts ns) 0 at es)
          (ltb (2 ^ 22) (get_or (counts ns) id 0)) (entry id)
          (e ∙ known_yet b id at at known es c (falls_of ns below) is)
          (le-ltb (2 ^ 22) (get_or (counts ns) id 0) (omega (arith, x, few))));
      grown = grown_next counted b id paths known es c.grown h is n;
    }

none_first : (x y z : Option ℕ) → None ≡ x → z ≡ y → z ≡ or_first x y
none_first None y z e f = f
none_first (Some a) y z e f = absurd cc

root_known : (b : List ℕ) (id : ℕ) (known : List ℕ) → Grown counted b id known
    → length (nodes_of b) ≤ id → get_or known (length known - 1) 0
    ≡ get_or (counts (nodes_of b)) (length (nodes_of b) - 1) 0
root_known b id known g h =
    let d : drop id (nodes_of b) ≡ [] = drop_of_length-le (nodes_of b) h in
    let same : known ≡ counts (nodes_of b) =
    sym (ap (λ (ns : List (List Edge)). table counted known ns) d) ∙ g.rest in
    let l = length-table counted [] (nodes_of b) in
    let m : length known ≡ length (counts (nodes_of b)) = ap (λ (xs : List ℕ). length xs) same in
    let n : length known ≡ length (nodes_of b) = omega (arith, m, l) in
    ap (λ (k : ℕ). get_or known (k - 1) 0) n
    ∙ ap (λ (xs : List ℕ). get_or xs (length (nodes_of b) - 1) 0) same

pub counting_ends : (b : List ℕ) (id at root : ℕ) (known : List ℕ) (result : Option ℕ)
    → Counting b id at known → length (nodes_of b) ≤ id → root ≡ get_or known (length known - 1) 0
    → result ≡ broken_if (not (eqb (path_count b) root)) 12
    → result ≡ rule_7 first_form (path_count b) (nodes_of b)
counting_ends b id at root known result c h r e =
    none_first _ _ result (sweep_ends (miscounts (nodes_of b)) b id at c.sweep h)
    (e ∙ ap (λ (k : ℕ). broken_if (not (eqb (path_count b) k)) 12)
    (r ∙ root_known b id known c.grown h))
