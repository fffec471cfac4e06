-- Nodes' views compared and hashed arc by arc.
use Rattle.std.proofs.Common.{◌≡◌, ◌<◌, ◌≤◌, ◌+◌, ℕ, zero, suc, Bool, true, false, ◌&&◌, ◌||◌, eqb}
use Rattle.std.proofs.Common.{List, [], ◌∷◌, ◌++◌, take, drop, length, get_or, refl, sym, ap, ◌∙◌}
use Rattle.std.proofs.Common.{arith, Option, Some}
use Rattle.sg_base.specs.declared.node.Edge.{Edge}
use Rattle.sg_base.specs.Nodes.{same_edges, holds_same}
use Rattle.sg_base.proofs.EqualNodes.{none_held}
use Rattle.std.proofs.Common.{subst}
use Rattle.sg_base.specs.Chains.{Chained, bucket_in}
use Rattle.fst_code.specs.Bytes.{entry}
use Rattle.fst_code.specs.Rules.{or_first, broken_if, repeated}
use Rattle.sg_base.specs.Hashes.{hash_from, mixed}
use Rattle.fst_code.proofs.PutLemmas.{drop_next}

pub hash_next : (h next at : ℕ) (es : List Edge) (e : Edge) → at < length es → e ≡ get_or es at e
    → next ≡ mixed (mixed (mixed h e.label) e.cost) e.target.0
    → hash_from h (drop at es) ≡ hash_from next (drop (at + 1) es)
hash_next h next at es e l is n =
    ap (hash_from h) (drop_next es at e l)
    ∙ ap (λ (x : Edge). hash_from (mixed (mixed (mixed h x.label) x.cost) x.target.0)
    (drop (at + 1) es)) (sym is) ∙ ap (λ (k : ℕ). hash_from k (drop (at + 1) es)) (sym n)

pub same_next : (at : ℕ) (a b : List Edge) (x y : Edge) → at < length a → at < length b
    → x ≡ get_or a at x → y ≡ get_or b at y
    → same_edges (drop at a) (drop at b)
    ≡ ((eqb x.label y.label) && (eqb x.cost y.cost) && (eqb x.target.0 y.target.0)
    && same_edges (drop (at + 1) a) (drop (at + 1) b))
same_next at a b x y h k i j =
    ap (λ (es : List Edge). same_edges es (drop at b))
    (drop_next a at x h ∙ ap (λ (e : Edge). e ∷ drop (at + 1) a) (sym i))
    ∙ ap (same_edges (x ∷ drop (at + 1) a))
    (drop_next b at y k ∙ ap (λ (e : Edge). e ∷ drop (at + 1) b) (sym j))

and_shift : (a b c d : Bool) → (a && b && c && d) ≡ ((a && b && c) && d)
and_shift true true true d = refl
and_shift true true false d = refl
and_shift true false c d = refl
and_shift false b c d = refl

abbrev pub arcs_same : Edge → Edge → Bool
arcs_same x y = (eqb x.label y.label) && (eqb x.cost y.cost) && (eqb x.target.0 y.target.0)

pub same_passed : (at : ℕ) (a b : List Edge) (x y : Edge) (whole : Bool) → at < length a
    → at < length b → x ≡ get_or a at x → y ≡ get_or b at y → arcs_same x y ≡ true
    → same_edges (drop at a) (drop at b) ≡ whole
    → same_edges (drop (at + 1) a) (drop (at + 1) b) ≡ whole
same_passed at a b x y whole h k i j t inv =
    sym (same_next at a b x y h k i j
    ∙ and_shift (eqb x.label y.label) (eqb x.cost y.cost) (eqb x.target.0 y.target.0)
    (same_edges (drop (at + 1) a) (drop (at + 1) b))
    ∙ ap (λ (v : Bool). v && same_edges (drop (at + 1) a) (drop (at + 1) b)) t) ∙ inv

pub same_found : (at : ℕ) (a b : List Edge) (x y : Edge) (whole : Bool) → at < length a
    → at < length b → x ≡ get_or a at x → y ≡ get_or b at y → arcs_same x y ≡ false
    → same_edges (drop at a) (drop at b) ≡ whole → false ≡ whole
same_found at a b x y whole h k i j t inv =
    sym (same_next at a b x y h k i j
    ∙ and_shift (eqb x.label y.label) (eqb x.cost y.cost) (eqb x.target.0 y.target.0)
    (same_edges (drop (at + 1) a) (drop (at + 1) b))
    ∙ ap (λ (v : Bool). v && same_edges (drop (at + 1) a) (drop (at + 1) b)) t) ∙ inv

get_take : (n m : ℕ) (xs : List (List Edge)) → n < m → get_or (take m xs) n [] ≡ get_or xs n []
get_take n zero xs h = absurd (omega (arith, h))
get_take n (suc m) [] h = refl
get_take zero (suc m) (x ∷ xs) h = refl
get_take (suc n) (suc m) (x ∷ xs) h = get_take n m xs (omega (arith, h))

length-front : (n : ℕ) (xs : List (List Edge)) → length (take n xs) ≤ n
length-front zero xs = omega (arith)
length-front (suc n) [] = omega (arith)
length-front (suc n) (x ∷ xs) = let ih = length-front n xs in omega (arith, ih)

or_right : (a b : Bool) → b ≡ true → (a || b) ≡ true
or_right true b e = refl
or_right false b e = e

or_left : (a b : Bool) → a ≡ true → (a || b) ≡ true
or_left a b e = rw e refl

-- one of the nodes before
pub held_some : (node : List Edge) (ns : List (List Edge)) (j id : ℕ) → j < id → j < length ns
    → same_edges (get_or ns j []) node ≡ true → holds_same node (take id ns) ≡ true
held_some node [] j id h l e = absurd (omega (arith, l))
held_some node (n ∷ ns) j zero h l e = absurd (omega (arith, h))
held_some node (n ∷ ns) zero (suc id) h l e =
    or_left (same_edges n node) (holds_same node (take id ns)) e
held_some node (n ∷ ns) (suc j) (suc id) h l e =
    or_right (same_edges n node) (holds_same node (take id ns))
    (held_some node ns j id (omega (arith, h)) (omega (arith, l)) e)

-- none of them
pub held_none : (node : List Edge) (ns : List (List Edge)) (id : ℕ)
    → ((j : ℕ) → j < id → same_edges (get_or ns j []) node ≡ false)
    → holds_same node (take id ns) ≡ false
held_none node ns id none =
    let l = length-front id ns in
    none_held node (take id ns) (λ j h. let k : j < id =
    omega (arith, h, l) in ap (λ (x : List Edge). same_edges x node) (get_take j id ns k)
    ∙ none j k)

front_more : (i : ℕ) (xs : List (List Edge)) → i < length xs
    → take i xs ++ get_or xs i [] ∷ [] ≡ take (i + 1) xs
front_more i [] h = absurd (omega (arith, h))
front_more zero (x ∷ xs) h = let one : suc zero ≡ 0 + 1 =
    omega (arith) in ap (λ (k : ℕ). take k (x ∷ xs)) one
front_more (suc i) (x ∷ xs) h =
    let s : suc (i + 1) ≡ suc i + 1 = omega (arith) in
    ap (λ (v : List (List Edge)). x ∷ v) (front_more i xs (omega (arith, h)))
    ∙ ap (λ (k : ℕ). take k (x ∷ xs)) s

repeated_next : (ns : List (List Edge)) (id : ℕ) → id < length ns
    → repeated id (take id ns) (drop id ns)
    ≡ or_first (broken_if (holds_same (get_or ns id []) (take id ns)) (entry id))
    (repeated (id + 1) (take (id + 1) ns) (drop (id + 1) ns))
repeated_next ns id h =
    ap (repeated id (take id ns)) (drop_next ns id [] h)
    ∙ ap (λ (v : List (List Edge)). or_first
    (broken_if (holds_same (get_or ns id []) (take id ns)) (entry id))
    (repeated (id + 1) v (drop (id + 1) ns))) (front_more id ns h)

found_by : (b : Bool) (at : ℕ) (rest whole part : Option ℕ) → part ≡ or_first (broken_if b at) rest
    → part ≡ whole → b ≡ true → Some at ≡ whole
found_by true at rest whole part e inv t = sym e ∙ inv
found_by false at rest whole part e inv t = absurd cc

passed_by : (b : Bool) (at : ℕ) (rest whole part : Option ℕ) → part ≡ or_first (broken_if b at) rest
    → part ≡ whole → b ≡ false → rest ≡ whole
passed_by false at rest whole part e inv t = sym e ∙ inv
passed_by true at rest whole part e inv t = absurd cc

pub repeated_found : (ns : List (List Edge)) (id : ℕ) (whole : Option ℕ) → id < length ns
    → repeated id (take id ns) (drop id ns) ≡ whole
    → true ≡ holds_same (get_or ns id []) (take id ns) → Some (entry id) ≡ whole
repeated_found ns id whole h inv t =
    found_by (holds_same (get_or ns id []) (take id ns)) (entry id) _ whole _
    (repeated_next ns id h) inv (sym t)

pub repeated_passed : (ns : List (List Edge)) (id : ℕ) (whole : Option ℕ) → id < length ns
    → repeated id (take id ns) (drop id ns) ≡ whole
    → false ≡ holds_same (get_or ns id []) (take id ns)
    → repeated (id + 1) (take (id + 1) ns) (drop (id + 1) ns) ≡ whole
repeated_passed ns id whole h inv t =
    passed_by (holds_same (get_or ns id []) (take id ns)) (entry id) _ whole _
    (repeated_next ns id h) inv (sym t)

pub chained_code : (heads heads2 chain chain2 : List ℕ) (ns : List (List Edge)) (buckets n : ℕ)
    → heads2 ≡ heads → chain2 ≡ chain → length heads ≡ buckets
    → Chained heads (λ i. get_or chain i 0) (bucket_in buckets ns) n
    → Chained heads2 (λ i. get_or chain2 i 0) (bucket_in (length heads2) ns) n
chained_code heads heads2 chain chain2 ns buckets n h c l k =
    subst (λ (v : List ℕ). Chained v (λ i. get_or chain2 i 0) (bucket_in (length v) ns) n) (sym h)
    (subst (λ (v : List ℕ). Chained heads (λ i. get_or v i 0) (bucket_in (length heads) ns) n)
    (sym c)
    (subst (λ (m : ℕ). Chained heads (λ i. get_or chain i 0) (bucket_in m ns) n) (sym l) k))
