-- One list has one text.
use Rattle.std.proofs.Common.{◌≡◌, ◌<◌, ◌≤◌, ◌+◌, ◌-◌, ℕ, zero, suc, Bool, true, false}
use Rattle.std.proofs.Common.{length-append, List, [], ◌∷◌, ◌++◌, map, length}
use Rattle.std.proofs.Common.{get_or, refl, sym, ap, subst, ◌∙◌, arith, ◌⊎◌, inl, inr}
use Rattle.std.proofs.Common.{Fits, w8}
use Rattle.std.specs.List.{AllByRecursion, flat_map, sum_by}
use Rattle.std.proofs.lemmas.Bool.{cases_lt, cases_order}
use Rattle.std.proofs.lemmas.List.{get_or_past, length-map, map_push}
use Rattle.std.proofs.lemmas.List.Sums.{sum_by-cons}
use Rattle.sg_base.specs.declared.node.Edge.{Edge}
use Rattle.sg_base.specs.Nodes.{same_edges}
use Rattle.sg_base.proofs.EqualNodes.{Alike, alike_of, swap_same}
use Rattle.fst_code.specs.Tails.{Tail, tails, table, along, mapped, counted, counts}
use Rattle.fst_code.specs.Bytes.{first_form, encoding, nodes_of, path_count}
use Rattle.fst_code.specs.Rules.{postorder, from_to, IsValid}
use Rattle.fst_code.specs.ValidNodes.{AreValid, Rising, CountedFrom}
use Rattle.fst_code.specs.Lists.{HasFree, root_paths, list_of}
use Rattle.fst_code.specs.Shapes.{IsBytes}
use Rattle.fst_code.proofs.TableLemmas.{table_at, mapped_local}
use Rattle.fst_code.proofs.CanonicalLemmas.{free_below}
use Rattle.fst_code.proofs.LawLemmas.{Lawful, Rises, Rising as Climbs, AllFree}
use Rattle.fst_code.proofs.PairsLemmas.{same_nodes}
use Rattle.fst_code.proofs.BytesLemmas.{valid_bytes}

climbs_from : (e : Edge) (es : List Edge) → Rising (e ∷ es) → Rises e.label es
climbs_from e [] h = tt
climbs_from e (d ∷ es) h = (h.0, climbs_from d es h.1)

climbs : (es : List Edge) → Rising es → Climbs es
climbs [] h = tt
climbs (e ∷ es) h = climbs_from e es h

true_false : (b : Bool) → b ≡ true → b ≡ false → ⊥
true_false true e f = absurd cc
true_false false e f = absurd cc

once_by : (ns : List (List Edge))
    → ((i j : ℕ) → i < j → j < length ns → same_edges (get_or ns i []) (get_or ns j []) ≡ false)
    → ((a b : List Edge) → same_edges a b ≡ true → same_edges b a ≡ true) → (i j : ℕ)
    → i < length ns → j < length ns → same_edges (get_or ns i []) (get_or ns j []) ≡ true
    → (i ≡ j) ⊎ ((i < j) ⊎ (j < i)) → i ≡ j
once_by ns once swap i j h k e (inl q) = q
once_by ns once swap i j h k e (inr (inl l)) = absurd (true_false _ e (once i j l k))
once_by ns once swap i j h k e (inr (inr l)) =
    absurd (true_false _ (swap (get_or ns i []) (get_or ns j []) e) (once j i l h))

free_targets : (paths : ℕ) (ns : List (List Edge)) → AreValid paths ns → (id : ℕ) (es : List Edge)
    → id < length ns → AllByRecursion (λ (e : Edge). e.target.0 < id) es
    → AllFree (table mapped [] ns) es
unfolding tails
free_targets paths ns s id [] h below = tt
free_targets paths ns s id (e ∷ es) h below = (
  free_below paths ns s (suc e.target.0) e.target.0 (omega arith)
      (let b = below.0 in omega (arith, b, h)),
  free_targets paths ns s id es h below.1,
)

free_at : (paths : ℕ) (ns : List (List Edge)) → AreValid paths ns → (id : ℕ)
    → (id < length ns) ⊎ (length ns ≤ id) → AllFree (table mapped [] ns) (get_or ns id [])
free_at paths ns s id (inl h) = free_targets paths ns s id (get_or ns id []) h (s.below id)
free_at paths ns s id (inr h) =
    subst (AllFree (table mapped [] ns)) (sym (get_or_past ns id [] h)) tt

lawful : (paths : ℕ) (ns : List (List Edge)) → AreValid paths ns → Lawful ns (table mapped [] ns)
lawful paths ns s = record {
  maps = λ i h. table_at [] mapped mapped_local ns i h s.below;
  rising = λ i. climbs (get_or ns i []) (s.rising i);
  below = s.below;
  free = λ i. free_at paths ns s i (cases_lt i (length ns));
  once = λ i j h k e. once_by ns s.once swap_same i j h k e (cases_order i j);
}

-- the counts are the lengths of what is mapped
abbrev pub lengths : List (List Tail) → List ℕ
lengths = map (λ (t : List Tail). length t)

edge_is : (e d : Edge) → e.label ≡ d.label → e.cost ≡ d.cost → e.before ≡ d.before
    → e.target.0 ≡ d.target.0 → e ≡ d
edge_is e d l c b t =
    let step1 : e ≡ record {
      label = d.label;
      cost = e.cost;
      before = e.before;
      target =
          e.target;
    } = ap (λ (x : ℕ). let r : Edge =
    record { label = x; cost = e.cost; before = e.before; target = e.target } in r) l in
    let step2 : record { label = d.label; cost = e.cost; before = e.before; target = e.target }
    ≡ record { label = d.label; cost = d.cost; before = e.before; target = e.target } =
    ap (λ (x : ℕ). let r : Edge = record
    { label = d.label; cost = x; before = e.before; target = e.target } in r) c in
    let step3 : record { label = d.label; cost = d.cost; before = e.before; target = e.target }
    ≡ record { label = d.label; cost = d.cost; before = d.before; target = e.target } =
    ap (λ (x : ℕ). let r : Edge = record
    { label = d.label; cost = d.cost; before = x; target = e.target } in r) b in
    let step4 : record { label = d.label; cost = d.cost; before = d.before; target = e.target }
    ≡ d = ap (λ (x : ℕ). let r : Edge =
    record { label = d.label; cost = d.cost; before = d.before; target = record { 0 = x } }
    in r) t in
    step1 ∙ step2 ∙ step3 ∙ step4

edges_are : (a b : List ℕ) (k sofar : ℕ) (es ds : List Edge) → Alike es ds → CountedFrom a sofar es
    → CountedFrom b sofar ds → AllByRecursion (λ (e : Edge). e.target.0 < k) es
    → ((i : ℕ) → i < k → get_or a i 0 ≡ get_or b i 0) → es ≡ ds
edges_are a b k sofar [] [] same ca cb below eq = refl
edges_are a b k sofar [] (d ∷ ds) same ca cb below eq = absurd same
edges_are a b k sofar (e ∷ es) [] same ca cb below eq = absurd same
edges_are a b k sofar (e ∷ es) (d ∷ ds) same ca cb below eq =
    let n : sofar + get_or b d.target.0 0 ≡ sofar + get_or a e.target.0 0 =
    ap (λ (i : ℕ). sofar + get_or b i 0) (sym same.2)
    ∙ ap (λ (m : ℕ). sofar + m) (sym (eq e.target.0 below.0)) in
    let cb2 : CountedFrom b (sofar + get_or a e.target.0 0) ds =
    subst (λ (m : ℕ). CountedFrom b m ds) n cb.1 in
    ap (λ (x : Edge). x ∷ es) (edge_is e d same.0 same.1 (ca.0 ∙ sym cb.0) same.2)
    ∙ ap (λ (x : List Edge). d ∷ x)
    (edges_are a b k (sofar + get_or a e.target.0 0) es ds same.3 ca.1 cb2 below.1 eq)

lists_are : (xs ys : List (List Edge)) → length xs ≡ length ys
    → ((i : ℕ) → i < length xs → get_or xs i [] ≡ get_or ys i []) → xs ≡ ys
lists_are [] [] h eq = refl
lists_are [] (y ∷ ys) h eq = absurd (omega (arith, h))
lists_are (x ∷ xs) [] h eq = absurd (omega (arith, h))
lists_are (x ∷ xs) (y ∷ ys) h eq =
    ap (λ (z : List Edge). z ∷ xs) (eq 0 (omega arith))
    ∙ ap (λ (z : List (List Edge)). y ∷ z)
    (lists_are xs ys (omega (arith, h)) (λ i k. eq (suc i) (omega (arith, k))))

length_at : (known : List (List Tail)) (i : ℕ)
    → length (get_or known i []) ≡ get_or (lengths known) i 0
length_at [] i = refl
length_at (t ∷ ts) zero = refl
length_at (t ∷ ts) (suc i) = length_at ts i

length-flat : (known : List (List Tail)) (es : List Edge)
    → length (flat_map (λ (x : Edge). map (along x) (get_or known x.target.0 [])) es)
    ≡ sum_by (λ (x : Edge). get_or (lengths known) x.target.0 0) es
length-flat known [] = refl
length-flat known (e ∷ es) =
    let a = length-append (map (along e) (get_or known e.target.0 []))
    (flat_map (λ (x : Edge). map (along x) (get_or known x.target.0 [])) es) in
    let b = length-map (get_or known e.target.0 []) (along e) in
    let c = length_at known e.target.0 in
    let ih = length-flat known es in
    let s = sum_by-cons (λ (x : Edge). get_or (lengths known) x.target.0 0) e es in
    omega (arith, a, b, c, ih, s)

counted_is : (known : List (List Tail)) (n : List Edge)
    → length (mapped known n) ≡ counted (lengths known) n
counted_is known [] = refl
counted_is known (e ∷ es) = length-flat known (e ∷ es)

table_lengths : (done : List (List Tail)) (ns : List (List Edge))
    → lengths (table mapped done ns) ≡ table counted (lengths done) ns
table_lengths done [] = refl
table_lengths done (n ∷ ns) =
    table_lengths (done ++ mapped done n ∷ []) ns
    ∙ ap (λ (z : List ℕ). table counted z ns)
    (map_push (λ (t : List Tail). length t) done (mapped done n)
    ∙ ap (λ (z : ℕ). lengths done ++ z ∷ []) (counted_is done n))

pub count_is : (ns : List (List Edge)) (i : ℕ)
    → get_or (counts ns) i 0 ≡ length (get_or (table mapped [] ns) i [])
unfolding tails
count_is ns i = ap (λ (z : List ℕ). get_or z i 0) (sym (table_lengths [] ns))
    ∙ sym (length_at (table mapped [] ns) i)

-- the root's paths are some
nonempty : (ts : List Tail) (e : Edge) (rest : List Tail) → HasFree ts
    → map (along e) ts ++ rest ≡ [] → ⊥
nonempty [] e rest free none = absurd free
nonempty (t ∷ ts) e rest free none = absurd cc

some_way : (known : List (List Tail)) (e : Edge) (es : List Edge)
    → HasFree (get_or known e.target.0 []) → mapped known (e ∷ es) ≡ [] → ⊥
some_way known e es free none =
    nonempty (get_or known e.target.0 []) e
    (flat_map (λ (x : Edge). map (along x) (get_or known x.target.0 [])) es) free none

pub root_of : (ns : List (List Edge)) → 0 < length ns → root_paths ns ≡ tails ns (length ns - 1)
root_of ns h = refl

some_edges : (known : List (List Tail)) (es : List Edge) → 0 < length es → AllFree known es
    → mapped known es ≡ [] → ⊥
some_edges known [] h free none = absurd (omega (arith, h))
some_edges known (e ∷ es) h free none = some_way known e es free.0 none

pub root_some : (p : ℕ) (ns : List (List Edge)) → AreValid p ns → root_paths ns ≡ [] → ⊥
unfolding tails
root_some p ns s none =
    let two = s.two in
    let m = length ns - 1 in
    let l : m < length ns = omega (arith, two) in
    let at : tails ns m ≡ mapped (table mapped [] ns) (get_or ns m []) =
    table_at [] mapped mapped_local ns m l s.below in
    some_edges (table mapped [] ns) (get_or ns m []) (s.some m (omega (arith, two)) l)
    (free_at p ns s m (cases_lt m (length ns)))
    (sym at ∙ sym (root_of ns (omega (arith, two))) ∙ none)

nodes_same : (p q : ℕ) (s t : List (List Edge)) → AreValid p s → AreValid q t
    → root_paths s ≡ root_paths t → s ≡ t
unfolding tails
nodes_same p q s t a b lists =
    let m = length s - 1 in
    let n = length t - 1 in
    let two = a.two in
    let two2 = b.two in
    let ls : length s ≡ suc m = omega (arith, two) in
    let lt : length t ≡ suc n = omega (arith, two2) in
    let ws : postorder (suc m) s m [] ≡ from_to (suc m) 0 =
    subst (λ (k : ℕ). postorder k s m [] ≡ from_to k 0) ls a.walk in
    let wt : postorder (suc n) t n [] ≡ from_to (suc n) 0 =
    subst (λ (k : ℕ). postorder k t n [] ≡ from_to k 0) lt b.walk in
    let same : tails s m ≡ tails t n =
    sym (root_of s (omega (arith, two))) ∙ lists ∙ root_of t (omega (arith, two2)) in
    let law = same_nodes s t (table mapped [] s) (table mapped [] t) (lawful p s a) (lawful q t b) m
    n ls lt ws wt same in
    let e : m ≡ n = law.0 in
    lists_are s t (omega (arith, ls, lt, e)) (λ i h.
    let fits : i < suc m = omega (arith, h, ls) in
    edges_are (counts s) (counts t) i 0 (get_or s i []) (get_or t i [])
    (alike_of (get_or s i []) (get_or t i []) (law.1 i fits)) (a.before i) (b.before i)
    (a.below i)
    (λ j k. count_is s j ∙ ap (λ (x : List Tail). length x) (law.2 j (omega (arith, k, fits)))
    ∙ sym (count_is t j)))

paths_same : (p q : ℕ) (s t : List (List Edge)) → AreValid p s → AreValid q t → s ≡ t → p ≡ q
paths_same p q s t a b e = a.paths_are
    ∙ ap (λ (x : List (List Edge)). get_or (counts x) (length x - 1) 0) e ∙ sym b.paths_are

only_by : (p : ℕ) (s : List (List Edge)) (b : List ℕ) → AreValid p s → list_of b ≡ root_paths s
    → ((nodes_of b ≡ []) × (path_count b ≡ 0)) ⊎ AreValid (path_count b) (nodes_of b)
    → encoding first_form (path_count b) (nodes_of b) ≡ encoding first_form p s
unfolding tails
only_by p s b a lists (inl none) = absurd (root_some p s a (sym lists ∙ ap root_paths none.0))
only_by p s b a lists (inr valid) =
    let e = nodes_same (path_count b) p (nodes_of b) s valid a lists in
    let q = paths_same (path_count b) p (nodes_of b) s valid a e in
    ap (λ (k : ℕ). encoding first_form k (nodes_of b)) q ∙ ap (encoding first_form p) e

none_by : (b : List ℕ) → list_of b ≡ []
    → ((nodes_of b ≡ []) × (path_count b ≡ 0)) ⊎ AreValid (path_count b) (nodes_of b)
    → encoding first_form (path_count b) (nodes_of b) ≡ encoding first_form 0 []
none_by b lists (inl none) = ap (λ (k : ℕ). encoding first_form k (nodes_of b)) none.1
    ∙ ap (encoding first_form 0) none.0
none_by b lists (inr valid) = absurd (root_some (path_count b) (nodes_of b) valid lists)

-- valid bytes that map what valid nodes map
pub only_text : (p : ℕ) (s : List (List Edge)) (b : List ℕ) → AreValid p s → IsBytes b → IsValid b
    → list_of b ≡ root_paths s → b ≡ encoding first_form p s
only_text p s b a fits valid lists =
    let v = valid_bytes b fits valid in
    v.0 ∙ only_by p s b a lists v.1

pub text_of_none : (b : List ℕ) → IsBytes b → IsValid b → list_of b ≡ []
    → b ≡ encoding first_form 0 []
text_of_none b fits valid lists =
    let v = valid_bytes b fits valid in
    v.0 ∙ none_by b lists v.1

one_by : (a b : List ℕ) → IsBytes b → IsValid b → list_of a ≡ list_of b
    → a ≡ encoding first_form (path_count a) (nodes_of a)
    → ((nodes_of a ≡ []) × (path_count a ≡ 0)) ⊎ AreValid (path_count a) (nodes_of a) → a ≡ b
unfolding tails
one_by a b fb vb lists mapped (inl none) =
    mapped ∙ ap (λ (k : ℕ). encoding first_form k (nodes_of a)) none.1
    ∙ ap (encoding first_form 0) none.0
    ∙ sym (text_of_none b fb vb (sym lists ∙ ap root_paths none.0))
one_by a b fb vb lists mapped (inr valid) =
    mapped ∙ sym (only_text (path_count a) (nodes_of a) b valid fb vb (sym lists))

pub one_text : (a b : List ℕ) → IsBytes a → IsBytes b → IsValid a → IsValid b
    → list_of a ≡ list_of b → a ≡ b
one_text a b fa fb va vb lists =
    let v = valid_bytes a fa va in
    one_by a b fb vb lists v.0 v.1

-- a slice of bytes
pub bytes_of : (b : List ℕ) → ((i : ℕ) → Fits w8 (get_or b i 0)) → IsBytes b
bytes_of b fits i = let h = fits i in omega (arith, h)

-- what a header says of a root
paths_by : (b : List ℕ) → ((nodes_of b ≡ []) × (path_count b ≡ 0))
    ⊎ AreValid (path_count b) (nodes_of b) → path_count b ≡ length (list_of b)
unfolding tails
paths_by b (inl none) = none.1 ∙ sym (ap (λ (ns : List (List Edge)). length (root_paths ns)) none.0)
paths_by b (inr s) =
    let two = s.two in
    s.paths_are ∙ count_is (nodes_of b) (length (nodes_of b) - 1)
    ∙ sym (ap (λ (x : List Tail). length x) (root_of (nodes_of b) (omega (arith, two))))

pub paths_are : (b : List ℕ) → IsBytes b → IsValid b → path_count b ≡ length (list_of b)
paths_are b fits valid = paths_by b (valid_bytes b fits valid).1

pub none_listed : (ns : List (List Edge)) → length ns ≡ 0 → root_paths ns ≡ []
unfolding tails
none_listed [] h = refl
none_listed (n ∷ ns) h = absurd (omega (arith, h))

some_by : (b : List ℕ) → ((nodes_of b ≡ []) × (path_count b ≡ 0))
    ⊎ AreValid (path_count b) (nodes_of b) → 0 < length (nodes_of b) → list_of b ≡ [] → ⊥
some_by b (inl none) h e = let l =
    ap (λ (ns : List (List Edge)). length ns) none.0 in omega (arith, l, h)
some_by b (inr s) h e = root_some (path_count b) (nodes_of b) s e

pub some_listed : (b : List ℕ) → IsBytes b → IsValid b → 0 < length (nodes_of b) → list_of b ≡ []
    → ⊥
some_listed b fits valid h e = some_by b (valid_bytes b fits valid).1 h e
