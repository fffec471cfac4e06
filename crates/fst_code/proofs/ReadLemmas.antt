-- Valid bytes have valid nodes.
use Rattle.std.proofs.Common.{◌≡◌, ◌<◌, ◌≤◌, ◌+◌, ◌-◌, ◌*◌, ◌^◌, ℕ, zero, suc, Bool, true, false}
use Rattle.std.proofs.Common.{not, ◌||◌, eqb, eqb-true, ltb, List, [], ◌∷◌, ◌++◌, length, get_or}
use Rattle.std.proofs.Common.{refl, sym, ap, subst, ◌∙◌, arith, append_assoc, length-append, ◌⊎◌}
use Rattle.std.proofs.Common.{inl, inr, Option, Some, None}
use Rattle.std.specs.List.{AllByRecursion}
use Rattle.std.proofs.lemmas.Bool.{cases_lt, cases_eq, ltb-true, ltb-false, ne_eqb}
use Rattle.std.proofs.lemmas.List.{get_or_append_left, get_or_past, length_push, append-nil}
use Rattle.sg_base.specs.declared.node.Edge.{Edge}
use Rattle.sg_base.specs.Nodes.{same_edges, holds_same}
use Rattle.sg_base.proofs.EqualNodes.{held_each}
use Rattle.fst_code.specs.Tails.{table, counted, dearest, longest, counts}
use Rattle.fst_code.specs.Bytes.{Form, first_form, wide, entry}
use Rattle.fst_code.specs.Rules.{or_first, broken_if, over, in_nodes, labels_broken, targets_broken}
use Rattle.fst_code.specs.Rules.{counts_broken, rule_7, repeated, is_free, free_broken, over_most}
use Rattle.fst_code.specs.Rules.{postorder, from_to, misplaced, ruled, firsts, nodes_broken}
use Rattle.fst_code.specs.Rules.{for_targets}
use Rattle.fst_code.specs.Shapes.{AreShaped}
use Rattle.fst_code.specs.ValidNodes.{Rising, CountedFrom, AreValid}
use Rattle.fst_code.proofs.TableLemmas.{length-table, Falls}
use Rattle.fst_code.proofs.WalkLemmas.{AllBelow, all_at, targets_add, postorder_adds, adds_weaker}
use Rattle.fst_code.proofs.WalkLemmas.{length-from_to, get_or-from_to}

pub none_parts : {A : Type 0} (x y : Option A) → or_first x y ≡ None → (x ≡ None) × (y ≡ None)
none_parts None y e = (refl, e)
none_parts (Some a) y e = absurd cc

pub ruled_none : (k : ℕ) (x : Option ℕ) → ruled k x ≡ None → x ≡ None
ruled_none k None e = refl
ruled_none k (Some a) e = absurd cc

pub unbroken : (b : Bool) (at : ℕ) → broken_if b at ≡ None → b ≡ false
unbroken false at e = refl
unbroken true at e = absurd cc

pub unbroken_not : (b : Bool) (at : ℕ) → broken_if (not b) at ≡ None → b ≡ true
unbroken_not true at e = refl
unbroken_not false at e = absurd cc

-- each node passes at some offset
pub over_each : (f : Form) (test : ℕ → ℕ → List Edge → Option ℕ) (id at : ℕ) (ns : List (List Edge))
    → over f test id at ns ≡ None → (k : ℕ) → k < length ns
    → (a : ℕ) × (test (id + k) a (get_or ns k []) ≡ None)
over_each f test id at [] e k h = absurd (omega (arith, h))
over_each f test id at (n ∷ ns) e zero h = let z : id + 0 ≡ id =
    omega (arith) in (
      at,
      ap (λ (i : ℕ). test i at n) z
          ∙ (none_parts (test id at n) (over f test (id + 1) (at + wide f * length n) ns) e).0,
    )
over_each f test id at (n ∷ ns) e (suc k) h =
    let r = over_each f test (id + 1) (at + wide f * length n) ns
    (none_parts (test id at n) (over f test (id + 1) (at + wide f * length n) ns) e).1 k
    (omega (arith, h)) in
    let s : id + suc k ≡ id + 1 + k = omega (arith) in
    (r.0, ap (λ (i : ℕ). test i r.0 (get_or ns k [])) s ∙ r.1)

pub rising_of : (f : Form) (at : ℕ) (es : List Edge) → labels_broken f at es ≡ None → Rising es
rising_of f at [] e = tt
rising_of f at (x ∷ []) e = tt
rising_of f at (x ∷ y ∷ es) e =
    let p = none_parts (broken_if (not (ltb x.label y.label)) (at + wide f))
    (labels_broken f (at + wide f) (y ∷ es)) e in (
      ltb-true x.label y.label (unbroken_not (ltb x.label y.label) (at + wide f) p.0),
      rising_of f (at + wide f) (y ∷ es) p.1,
    )

pub below_of : (f : Form) (id at : ℕ) (es : List Edge) → targets_broken f id at es ≡ None
    → AllByRecursion (λ (e : Edge). e.target.0 < id) es
below_of f id at [] e = tt
below_of f id at (x ∷ es) e =
    let p = none_parts (broken_if (not (ltb x.target.0 id)) _)
    (targets_broken f id (at + wide f) es) e in (
      ltb-true x.target.0 id (unbroken_not (ltb x.target.0 id) _ p.0),
      below_of f id (at + wide f) es p.1,
    )

pub counted_of : (f : Form) (known : List ℕ) (sofar at : ℕ) (es : List Edge)
    → counts_broken f known sofar at es ≡ None → CountedFrom known sofar es
counted_of f known sofar at [] e = tt
counted_of f known sofar at (x ∷ es) e =
    let p = none_parts (broken_if (not (eqb x.before sofar)) _)
    (counts_broken f known (sofar + get_or known x.target.0 0) (at + wide f) es) e in (
      eqb-true x.before sofar (unbroken_not (eqb x.before sofar) _ p.0),
      counted_of f known (sofar + get_or known x.target.0 0) (at + wide f) es p.1,
    )

get_or_at_length : (xs ys : List (List Edge)) (n : List Edge)
    → get_or (xs ++ n ∷ ys) (length xs) [] ≡ n
get_or_at_length [] ys n = refl
get_or_at_length (x ∷ xs) ys n = get_or_at_length xs ys n

once_at : (earlier ns : List (List Edge)) (n : List Edge) (i j : ℕ) → holds_same n earlier ≡ false
    → i < j → j ≡ length earlier → same_edges (get_or (earlier ++ n ∷ ns) i [])
    (get_or (earlier ++ n ∷ ns) j []) ≡ false
once_at earlier ns n i j e h is =
    let low : i < length earlier = omega (arith, h, is) in
    ap (λ (x : List Edge). same_edges x (get_or (earlier ++ n ∷ ns) j []))
    (get_or_append_left earlier (n ∷ ns) [] i low)
    ∙ ap (same_edges (get_or earlier i []))
    (ap (λ (k : ℕ). get_or (earlier ++ n ∷ ns) k []) is ∙ get_or_at_length earlier ns n)
    ∙ held_each n earlier e i low

once_by : (id : ℕ) (earlier : List (List Edge)) (n : List Edge) (ns : List (List Edge))
    → repeated id earlier (n ∷ ns) ≡ None → (i j : ℕ) → i < j → length earlier ≤ j
    → j < length (earlier ++ n ∷ ns)
    → (length (earlier ++ n ∷ []) ≤ j → j < length ((earlier ++ n ∷ []) ++ ns)
    → same_edges (get_or ((earlier ++ n ∷ []) ++ ns) i [])
    (get_or ((earlier ++ n ∷ []) ++ ns) j []) ≡ false)
    → (j ≡ length earlier) ⊎ (j ≡ length earlier → ⊥)
    → same_edges (get_or (earlier ++ n ∷ ns) i []) (get_or (earlier ++ n ∷ ns) j []) ≡ false
once_by id earlier n ns e i j h k l rest (inl is) =
    once_at earlier ns n i j (unbroken (holds_same n earlier) (entry id)
    (none_parts (broken_if (holds_same n earlier) (entry id))
    (repeated (id + 1) (earlier ++ n ∷ []) ns) e).0) h is
once_by id earlier n ns e i j h k l rest (inr ne) =
    let a = length_push earlier n in
    let moved : (earlier ++ n ∷ []) ++ ns ≡ earlier ++ n ∷ ns = append_assoc earlier (n ∷ []) ns in
    let len = ap (λ (x : List (List Edge)). length x) moved in
    subst (λ (x : List (List Edge)). same_edges (get_or x i []) (get_or x j []) ≡ false) moved
    (rest (omega (arith, a, k, ne)) (omega (arith, len, l)))

pub once_of : (id : ℕ) (earlier ns : List (List Edge)) → repeated id earlier ns ≡ None → (i j : ℕ)
    → i < j → length earlier ≤ j → j < length (earlier ++ ns)
    → same_edges (get_or (earlier ++ ns) i []) (get_or (earlier ++ ns) j []) ≡ false
once_of id earlier [] e i j h k l = let a =
    length-append earlier [] in absurd (omega (arith, a, k, l))
once_of id earlier (n ∷ ns) e i j h k l =
    once_by id earlier n ns e i j h k l
    (λ a b. once_of (id + 1) (earlier ++ n ∷ []) ns
    (none_parts (broken_if (holds_same n earlier) (entry id))
    (repeated (id + 1) (earlier ++ n ∷ []) ns) e).1 i j h a b)
    (cases_eq j (length earlier))

pub most_of : (most id : ℕ) (xs : List ℕ) → over_most most id xs ≡ None → (i : ℕ)
    → get_or xs i 0 ≤ most
most_of most id [] e i = omega (arith)
most_of most id (x ∷ xs) e zero =
    ltb-false most x (unbroken (ltb most x) (entry id)
    (none_parts (broken_if (ltb most x) (entry id)) (over_most most (id + 1) xs) e).0)
most_of most id (x ∷ xs) e (suc i) =
    most_of most (id + 1) xs (none_parts (broken_if (ltb most x) (entry id))
    (over_most most (id + 1) xs) e).1 i

-- the numbers stand in order at the front
pub placed_of : (n id : ℕ) (order : List ℕ) → misplaced n id order ≡ None
    → (rest : List ℕ) × (order ≡ from_to n id ++ rest)
placed_of zero id order e = (order, refl)
placed_of (suc n) id [] e = absurd cc
placed_of (suc n) id (x ∷ xs) e =
    let p = none_parts (broken_if (not (eqb x id)) (entry id)) (misplaced n (id + 1) xs) e in
    let is : x ≡ id = eqb-true x id (unbroken_not (eqb x id) (entry id) p.0) in
    let r = placed_of n (id + 1) xs p.1 in
    (r.0, ap (λ (y : ℕ). y ∷ xs) is ∙ ap (λ (ys : List ℕ). id ∷ ys) r.1)

-- the root is left last, so nothing comes behind
postorder_last : (n : ℕ) (ns : List (List Edge)) → Falls ns
    → (xs : List ℕ) × (postorder (suc n) ns n [] ≡ xs ++ n ∷ []) × AllBelow n xs
unfolding postorder
postorder_last n ns falls =
    let a = targets_add (postorder n ns) n (get_or ns n []) []
    (λ t d l. adds_weaker (t + 1) n d (postorder n ns t d) (omega (arith, l))
    (postorder_adds n ns t d falls)) (falls n) in
    (for_targets (postorder n ns) (get_or ns n []) [], refl, subst (AllBelow n) (sym a.is) a.below)

none_behind : (n : ℕ) (xs rest : List ℕ) → AllBelow n xs → xs ++ n ∷ [] ≡ from_to (suc n) 0 ++ rest
    → rest ≡ []
none_behind n xs [] all e = refl
none_behind n xs (y ∷ ys) all e =
    let a = ap (λ (x : List ℕ). length x) e in
    let b = length-append xs (n ∷ []) in
    let c = length-append (from_to (suc n) 0) (y ∷ ys) in
    let d = length-from_to (suc n) 0 in
    let low : n < length xs = omega (arith, a, b, c, d) in
    let at : get_or (xs ++ n ∷ []) n 0 ≡ get_or xs n 0 = get_or_append_left xs (n ∷ []) 0 n low in
    let is : get_or (from_to (suc n) 0 ++ y ∷ ys) n 0 ≡ get_or (from_to (suc n) 0) n 0 =
    get_or_append_left (from_to (suc n) 0) (y ∷ ys) 0 n (omega (arith, d)) in
    let num = get_or-from_to (suc n) 0 n (omega arith) in
    let same = ap (λ (x : List ℕ). get_or x n 0) e in
    let k = all_at n xs n all low in
    absurd (omega (arith, at, is, num, same, k))

pub walk_of : (n : ℕ) (ns : List (List Edge)) → Falls ns
    → misplaced (suc n) 0 (postorder (suc n) ns n []) ≡ None
    → postorder (suc n) ns n [] ≡ from_to (suc n) 0
walk_of n ns falls e =
    let p = placed_of (suc n) 0 (postorder (suc n) ns n []) e in
    let l = postorder_last n ns falls in
    let none : p.0 ≡ [] = none_behind n l.0 p.0 l.2 (sym l.1 ∙ p.1) in
    p.1 ∙ ap (λ (x : List ℕ). from_to (suc n) 0 ++ x) none ∙ append-nil (from_to (suc n) 0)

free_three : (a b c : Bool) → (a || b || c) ≡ true → b ≡ false → c ≡ false → a ≡ true
free_three true b c e f g = refl
free_three false b c e f g = absurd cc

pub at_any : (P : ℕ → List Edge → Type 0) (ns : List (List Edge)) → ((id : ℕ) → P id [])
    → ((id : ℕ) → id < length ns → P id (get_or ns id [])) → (id : ℕ)
    → (id < length ns) ⊎ (length ns ≤ id) → P id (get_or ns id [])
at_any P ns none each id (inl h) = each id h
at_any P ns none each id (inr h) = subst (P id) (sym (get_or_past ns id [] h)) (none id)

counts_at : (ns : List (List Edge))
    → ((id : ℕ) → id < length ns → get_or (counts ns) id 0 ≤ 4194304) → (id : ℕ)
    → (id < length ns) ⊎ (length ns ≤ id) → get_or (counts ns) id 0 ≤ 4194304
counts_at ns each id (inl h) = each id h
counts_at ns each id (inr h) = let l = length-table counted [] ns in let p =
    get_or_past (counts ns) id 0 (omega (arith, l, h)) in omega (arith, p)

pub valid_nodes : (paths : ℕ) (ns : List (List Edge)) → AreShaped ns
    → firsts (nodes_broken first_form paths ns) ≡ None → AreValid paths ns
valid_nodes paths ns shape e =
    let f = first_form in
    let five_x = ruled 5 (in_nodes f (λ id at n. labels_broken f at n) ns) in
    let p5 = none_parts five_x _ e in
    let p6 = none_parts (ruled 6 (in_nodes f (λ id at n. targets_broken f id at n) ns)) _ p5.1 in
    let p7 = none_parts (ruled 7 (rule_7 f paths ns)) _ p6.1 in
    let p8 = none_parts (ruled 8 (repeated 0 [] ns)) _ p7.1 in
    let p9 = none_parts (ruled 9 (in_nodes f (λ id at n. free_broken (length ns) id n) ns)) _ p8.1
    in
    let p10 = none_parts (ruled 10 (over_most 2147483647 0 (table dearest [] ns))) _ p9.1 in
    let p11 = none_parts (ruled 11 (over_most 324 0 (table longest [] ns))) _ p10.1 in
    let p12 = none_parts (ruled 12
    (misplaced (length ns) 0 (postorder (length ns) ns (length ns - 1) []))) _ p11.1 in
    let r5 = over_each f (λ id at n. labels_broken f at n) 0 (entry (length ns)) ns
    (ruled_none 5 _ p5.0) in
    let r6 = over_each f (λ id at n. targets_broken f id at n) 0 (entry (length ns)) ns
    (ruled_none 6 _ p6.0) in
    let p7b = none_parts (in_nodes f
    (λ id at n. or_first (counts_broken f (counts ns) 0 at n)
    (broken_if (ltb (2 ^ 22) (get_or (counts ns) id 0)) (entry id))) ns) _
    (ruled_none 7 _ p7.0) in
    let r7 = over_each f (λ id at n. or_first (counts_broken f (counts ns) 0 at n)
    (broken_if (ltb (2 ^ 22) (get_or (counts ns) id 0)) (entry id))) 0 (entry (length ns))
    ns p7b.0 in
    let r9 = over_each f (λ id at n. free_broken (length ns) id n) 0 (entry (length ns)) ns
    (ruled_none 9 _ p9.0) in
    let falls : Falls ns = λ id. at_any
    (λ (k : ℕ) (es : List Edge). AllByRecursion (λ (e : Edge). e.target.0 < k) es) ns (λ k. tt)
    (λ k h. let r = r6 k h in below_of f k r.0 (get_or ns k [])
    (let z : k ≡ 0 + k = omega (arith) in
    ap (λ (i : ℕ). targets_broken f i r.0 (get_or ns k [])) z ∙ r.1)) id
    (cases_lt id (length ns)) in
    let two = shape.two in
    let top : suc (length ns - 1) ≡ length ns = omega (arith, two) in
    let twelve : misplaced (suc (length ns - 1)) 0
    (postorder (suc (length ns - 1)) ns (length ns - 1) []) ≡ None =
    ap (λ (k : ℕ). misplaced k 0 (postorder k ns (length ns - 1) [])) top
    ∙ ruled_none 12 _ p12.0 in
    record {
      two = two;
      end_is = shape.end_is;
      some = shape.some;
      labels = shape.labels;
      rising = λ id. at_any (λ (k : ℕ) (es : List Edge). Rising es) ns (λ k. tt)
          (λ k h. rising_of f (r5 k h).0 (get_or ns k []) (r5 k h).1) id (cases_lt id (length ns));
      below = falls;
      before = λ id. at_any (λ (k : ℕ) (es : List Edge). CountedFrom (counts ns) 0 es) ns (λ k. tt)
          (λ k h. counted_of f (counts ns) 0 (r7 k h).0 (get_or ns k [])
          (none_parts (counts_broken f (counts ns) 0 (r7 k h).0 (get_or ns k [])) _
          (r7 k h).1).0) id (cases_lt id (length ns));
      many = λ id. counts_at ns (λ k h. let u =
          ltb-false (2 ^ 22) (get_or (counts ns) (0 + k) 0)
          (unbroken (ltb (2 ^ 22) (get_or (counts ns) (0 + k) 0)) (entry (0 + k))
          (none_parts (counts_broken f (counts ns) 0 (r7 k h).0 (get_or ns k [])) _
          (r7 k h).1).1) in let z : get_or (counts ns) (0 + k) 0
          ≡ get_or (counts ns) k 0 = ap (λ (i : ℕ). get_or (counts ns) i 0) (omega arith) in
          omega (arith, u, z)) id (cases_lt id (length ns));
      paths_are = eqb-true paths (get_or (counts ns) (length ns - 1) 0)
          (unbroken_not (eqb paths (get_or (counts ns) (length ns - 1) 0)) 12 p7b.1);
      once = λ i j h k. once_of 0 [] ns (ruled_none 8 _ p8.0) i j h (omega arith) k;
      free = λ id p h. (let r = r9 id (omega (arith, h)) in
          free_three (is_free (get_or ns id [])) (eqb (0 + id) 0) (eqb (0 + id + 1) (length ns))
          (unbroken_not (is_free (get_or ns id []) || (eqb (0 + id) 0)
          || (eqb (0 + id + 1) (length ns))) (entry (0 + id)) r.1)
          (ne_eqb (0 + id) 0 (λ q. omega (arith, q, p)))
          (ne_eqb (0 + id + 1) (length ns) (λ q. omega (arith, q, h))));
      dear = most_of 2147483647 0 (table dearest [] ns) (ruled_none 10 _ p10.0);
      long = most_of 324 0 (table longest [] ns) (ruled_none 11 _ p11.0);
      walk = ap (λ (k : ℕ). postorder k ns (length ns - 1) []) (sym top)
          ∙ walk_of (length ns - 1) ns falls twelve ∙ ap (λ (k : ℕ). from_to k 0) top;
    }
