-- A transducer's nodes: their arcs' labels and counts, and the place behind any arc.
use Rattle.fst_code.specs.Tails.{Tail, along, tails, spread}
use Rattle.fst_code.specs.Transducers.{Rises, Counts, IsTransducer}
use Rattle.fst_walk.specs.Arcs.{has_that_label}
use Rattle.fst_walk.specs.Fronts.{is_front, has_label}
use Rattle.fst_walk.specs.Spots.{IsPlace}
use Rattle.sg_base.specs.declared.node.Edge.{Edge}
use Rattle.std.proofs.Common.{◌≡◌, ◌≤◌, ◌<◌, ◌+◌, ℕ, zero, suc, true, false, List, [], ◌∷◌}
use Rattle.std.proofs.Common.{◌++◌, length, map, get_or, length-append, refl, sym, ap, ◌∙◌, subst}
use Rattle.std.proofs.Common.{arith, eqb, eq-eqb, ◌⊎◌, inl, inr}
use Rattle.std.proofs.lemmas.Bool.{ne_eqb, or_from}
use Rattle.std.specs.List.{AllByRecursion}
use Rattle.fst_walk.proofs.BoolLemmas.{not_both}
use Rattle.fst_walk.proofs.FrontLemmas.{AllReach, is_front-spread}
use Rattle.fst_walk.proofs.PlaceLemmas.{OtherLabels, place_behind}

same_test : (a b : ℕ) → a ≡ b → eqb a b ≡ true
same_test a b h = eq-eqb a b h

turned_label : (a b : ℕ) → eqb b a ≡ false → eqb a b ≡ false
turned_label a b e = ne_eqb a b
    (λ h. absurd (let k : eqb b a ≡ true = same_test b a (sym h) in not_both (eqb b a) k e))

pub others_label : (l : ℕ) (es : List Edge)
    → AllByRecursion (λ (u : Edge). has_that_label l u ≡ false) es → has_label l es ≡ false
others_label l [] a = refl
others_label l (e ∷ es) a = or_from _ _ (turned_label l e.label a.0) (others_label l es a.1)

-- in rising labels, those on either side differ
less_differs : (l : ℕ) (us : List Edge) → AllByRecursion (λ (u : Edge). u.label < l) us
    → OtherLabels l us
less_differs l [] a = tt
less_differs l (u ∷ us) a = (ne_eqb l u.label (λ h. omega (arith, h, a.0)), less_differs l us a.1)

more_differs : (l : ℕ) (us : List Edge) → AllByRecursion (λ (u : Edge). l < u.label) us
    → OtherLabels l us
more_differs l [] a = tt
more_differs l (u ∷ us) a = (ne_eqb l u.label (λ h. omega (arith, h, a.0)), more_differs l us a.1)

in_between : (l : ℕ) (us vs : List Edge) (a : Edge)
    → AllByRecursion (λ (u : Edge). l < u.label) (us ++ a ∷ vs) → l < a.label
in_between l [] vs a h = h.0
in_between l (u ∷ us) vs a h = in_between l us vs a h.1

pub rises_front : (us vs : List Edge) (a : Edge) → Rises (us ++ a ∷ vs)
    → AllByRecursion (λ (u : Edge). u.label < a.label) us
rises_front [] vs a r = tt
rises_front (u ∷ us) vs a r = (in_between u.label us vs a r.0, rises_front us vs a r.1)

pub rises_rest : (us vs : List Edge) (a : Edge) → Rises (us ++ a ∷ vs)
    → AllByRecursion (λ (u : Edge). a.label < u.label) vs
rises_rest [] vs a r = r.0
rises_rest (u ∷ us) vs a r = rises_rest us vs a r.1

pub length-along : (u : Edge) (ts : List Tail) → length (map (along u) ts) ≡ length ts
length-along u [] = refl
length-along u (t ∷ ts) = ap suc (length-along u ts)

pub counts_at : (ways : ℕ → List Tail) (sofar : ℕ) (us vs : List Edge) (a : Edge)
    → Counts ways sofar (us ++ a ∷ vs) → a.before ≡ sofar + length (spread ways us)
counts_at ways sofar [] vs a c = omega (arith, c.0)
counts_at ways sofar (u ∷ us) vs a c =
    let ih = counts_at ways (sofar + length (ways u.target.0)) us vs a c.1 in
    let h = length-append (map (along u) (ways u.target.0)) (spread ways us) in
    let k = length-along u (ways u.target.0) in
    omega (arith, ih, h, k)

-- of a valid transducer
below_in : (nodes : List (List Edge)) (s : IsTransducer nodes) (k : ℕ) (es : List Edge)
    → k ≤ length nodes → AllByRecursion (λ (e : Edge). e.target.0 < k) es
    → AllReach (tails nodes) es
below_in nodes s k [] h a = tt
below_in nodes s k (e ∷ es) h a =
    (s.some e.target.0 (omega (arith, h, a.0)), below_in nodes s k es h a.1)

fronts_at : (nodes : List (List Edge)) → IsTransducer nodes → (id l : ℕ) → id < length nodes
    → (id ≡ 0) ⊎ (0 < id) → is_front (tails nodes id) (l ∷ []) ≡ has_label l (get_or nodes id [])
fronts_at nodes s id l h (inl e) =
    let end = s.the_end (omega (arith, h)) in
    ap (λ i. is_front (tails nodes i) (l ∷ [])) e
    ∙ ap (λ (ts : List Tail). is_front ts (l ∷ [])) end.1
    ∙ sym (ap (λ i. has_label l (get_or nodes i [])) e ∙ ap (has_label l) end.0)
fronts_at nodes s id l h (inr p) =
    ap (λ (ts : List Tail). is_front ts (l ∷ [])) (s.inner id p h)
    ∙ is_front-spread (tails nodes) l (get_or nodes id [])
    (below_in nodes s id (get_or nodes id []) (omega (arith, h)) (s.node id h).below)

pub zero_or : (n : ℕ) → (n ≡ 0) ⊎ (0 < n)
zero_or zero = inl refl
zero_or (suc n) = inr (omega arith)

pub node_fronts : (nodes : List (List Edge)) → IsTransducer nodes → (id l : ℕ) → id < length nodes
    → is_front (tails nodes id) (l ∷ []) ≡ has_label l (get_or nodes id [])
node_fronts nodes s id l h = fronts_at nodes s id l h (zero_or id)

nil_no : (us vs : List Edge) (a : Edge) → [] ≡ us ++ a ∷ vs → ⊥
nil_no [] vs a e = cc
nil_no (u ∷ us) vs a e = cc

not_end : (nodes : List (List Edge)) → IsTransducer nodes → (id : ℕ) → id < length nodes
    → (us vs : List Edge) (a : Edge) → get_or nodes id [] ≡ us ++ a ∷ vs → (id ≡ 0) ⊎ (0 < id)
    → 0 < id
not_end nodes s id h us vs a is (inl e) =
    let end = s.the_end (omega (arith, h)) in
    let no : [] ≡ us ++ a ∷ vs = sym end.0 ∙ ap (λ i. get_or nodes i []) (sym e) ∙ is in
    absurd (nil_no us vs a no)
not_end nodes s id h us vs a is (inr p) = p

-- the place behind any arc of a place's node
pub arc_place : (nodes : List (List Edge)) → IsTransducer nodes → (paths : List Tail) (p : List ℕ)
    (n c o : ℕ) (us vs : List Edge) (a : Edge) → n < length nodes
    → get_or nodes n [] ≡ us ++ a ∷ vs → IsPlace paths (tails nodes) p n c o
    → IsPlace paths (tails nodes) (p ++ a.label ∷ []) a.target.0 (c + a.cost) (o + a.before)
arc_place nodes s paths p n c o us vs a h is at =
    let node = s.node n h in
    let r : Rises (us ++ a ∷ vs) = subst Rises is node.rises in
    let k : Counts (tails nodes) 0 (us ++ a ∷ vs) = subst (Counts (tails nodes) 0) is node.counts in
    place_behind paths (tails nodes) p n c o us vs a at
    (s.inner n (not_end nodes s n h us vs a is (zero_or n)) h ∙ ap (spread (tails nodes)) is)
    (less_differs a.label us (rises_front us vs a r))
    (more_differs a.label vs (rises_rest us vs a r))
    (let e = counts_at (tails nodes) 0 us vs a k in omega (arith, e))

all_among : (P : Edge → Type 0) (us vs : List Edge) (a : Edge) → AllByRecursion P (us ++ a ∷ vs)
    → P a
all_among P [] vs a b = b.0
all_among P (u ∷ us) vs a b = all_among P us vs a b.1

pub arc_node : (nodes : List (List Edge)) → IsTransducer nodes
    → (n : ℕ) (us vs : List Edge) (a : Edge)
    → n < length nodes → get_or nodes n [] ≡ us ++ a ∷ vs → a.target.0 < length nodes
arc_node nodes s n us vs a h is =
    let b = subst (AllByRecursion (λ (e : Edge). e.target.0 < n)) is (s.node n h).below in
    let k = all_among (λ (e : Edge). e.target.0 < n) us vs a b in
    omega (arith, k, h)
