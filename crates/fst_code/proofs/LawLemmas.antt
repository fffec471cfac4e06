-- Two nodes that map one list have the same labels and costs, and targets that map the same.
use Rattle.std.proofs.Common.{◌≡◌, ◌<◌, ◌≤◌, ◌+◌, ℕ, zero, suc, Bool, true, List, [], ◌∷◌, ◌++◌}
use Rattle.std.proofs.Common.{map, length, get_or, refl, sym, ap, subst, ◌∙◌, arith, inl, inr, ◌&&◌}
use Rattle.std.proofs.Common.{eqb, eq-eqb}
use Rattle.std.specs.List.{flat_map, AllByRecursion}
use Rattle.sg_base.specs.declared.node.Edge.{Edge}
use Rattle.sg_base.specs.Nodes.{same_edges}
use Rattle.fst_code.specs.Lists.{HasFree as IsFree}
use Rattle.fst_code.specs.Tails.{Tail, along, mapped}

-- a way through an edge
abbrev pub ways : List (List Tail) → List Edge → List Tail
ways done = flat_map (λ (x : Edge). map (along x) (get_or done x.target.0 []))

-- the first label
abbrev pub Begins : ℕ → Tail → Type 0
Begins l t = (rest : List ℕ) × (t.0 ≡ l ∷ rest)

abbrev pub Above : ℕ → Tail → Type 0
Above l t = (m : ℕ) × (rest : List ℕ) × (t.0 ≡ m ∷ rest) × (l < m)

-- labels that rise strictly, all above one
abbrev pub Rises : ℕ → List Edge → Type 0
Rises l [] = Unit {0}
Rises l (e ∷ es) = (l < e.label) × Rises e.label es

abbrev pub AllFree : List (List Tail) → List Edge → Type 0
AllFree done es = AllByRecursion (λ (e : Edge). IsFree (get_or done e.target.0 [])) es

all_begin : (e : Edge) (ts : List Tail) → AllByRecursion (Begins e.label) (map (along e) ts)
all_begin e [] = tt
all_begin e (t ∷ ts) = ((t.0, refl), all_begin e ts)

above_less : (l m : ℕ) (ts : List Tail) → l < m → AllByRecursion (Above m) ts
    → AllByRecursion (Above l) ts
above_less l m [] h all = tt
above_less l m (t ∷ ts) h all =
    ((all.0.0, all.0.1, all.0.2, omega (arith, h, all.0.3)), above_less l m ts h all.1)

all_append : (P : Tail → Type 0) (xs ys : List Tail) → AllByRecursion P xs → AllByRecursion P ys
    → AllByRecursion P (xs ++ ys)
all_append P [] ys a b = b
all_append P (x ∷ xs) ys a b = (a.0, all_append P xs ys a.1 b)

begin_above : (l m : ℕ) (ts : List Tail) → l < m → AllByRecursion (Begins m) ts
    → AllByRecursion (Above l) ts
begin_above l m [] h all = tt
begin_above l m (t ∷ ts) h all = ((m, all.0.0, all.0.1, h), begin_above l m ts h all.1)

ways_above : (done : List (List Tail)) (l : ℕ) (es : List Edge) → Rises l es
    → AllByRecursion (Above l) (ways done es)
ways_above done l [] rises = tt
ways_above done l (e ∷ es) rises =
    all_append (Above l) (map (along e) (get_or done e.target.0 [])) (ways done es)
    (begin_above l e.label _ rises.0 (all_begin e (get_or done e.target.0 [])))
    (above_less l e.label (ways done es) rises.0 (ways_above done e.label es rises.1))

cons_head : {A : Type 0} (x y : A) (xs ys : List A) → x ∷ xs ≡ y ∷ ys → (x ≡ y) × (xs ≡ ys)
cons_head x y xs ys e = (cc, cc)

clash : (l : ℕ) (t : Tail) → Begins l t → Above l t → ⊥
clash l t b a =
    let same : l ≡ a.0 = (cons_head l a.0 b.0 a.1 (sym b.1 ∙ a.2)).0 in
    omega (arith, same, a.3)

nil_cons : {A : Type 0} (x : A) (xs : List A) → [] ≡ x ∷ xs → ⊥
nil_cons x xs e = cc

-- where the first label changes
pub parts : (l : ℕ) (xs ys zs ws : List Tail) → AllByRecursion (Begins l) xs
    → AllByRecursion (Above l) ys → AllByRecursion (Begins l) zs → AllByRecursion (Above l) ws
    → xs ++ ys ≡ zs ++ ws → (xs ≡ zs) × (ys ≡ ws)
parts l [] ys [] ws a b c d e = (refl, e)
parts l [] [] (z ∷ zs) ws a b c d e = absurd (nil_cons z (zs ++ ws) e)
parts l [] (y ∷ ys) (z ∷ zs) ws a b c d e =
    absurd (clash l z c.0 (subst (Above l) (cons_head y z ys (zs ++ ws) e).0 b.0))
parts l (x ∷ xs) ys [] [] a b c d e = absurd (nil_cons x (xs ++ ys) (sym e))
parts l (x ∷ xs) ys [] (w ∷ ws) a b c d e =
    absurd (clash l x a.0 (subst (Above l) (sym (cons_head x w (xs ++ ys) ws e).0) d.0))
parts l (x ∷ xs) ys (z ∷ zs) ws a b c d e =
    let p = cons_head x z (xs ++ ys) (zs ++ ws) e in
    let q = parts l xs ys zs ws a.1 b c.1 d p.1 in
    (rw (p.0, q.0) refl, q.1)

-- A free list's cost through an edge is at least the edge's, and once equal.
abbrev pub AtLeast : ℕ → List Tail → Type 0
AtLeast c ts = AllByRecursion (λ (t : Tail). c ≤ t.1) ts

some_free : (c k : ℕ) (e : Edge) (ts : List Tail) → c ≡ e.cost → IsFree ts
    → AtLeast k (map (along e) ts) → k ≤ c
some_free c k e [] same free least = absurd free
some_free c k e (t ∷ ts) same (inl z) least = omega (arith, same, z, least.0)
some_free c k e (t ∷ ts) same (inr r) least = some_free c k e ts same r least.1

at_least : (e : Edge) (ts : List Tail) → AtLeast e.cost (map (along e) ts)
at_least e [] = tt
at_least e (t ∷ ts) = (omega (arith), at_least e ts)

tail_same : (e d : Edge) (t u : Tail) → e.cost ≡ d.cost → along e t ≡ along d u → t ≡ u
tail_same e d t u c same =
    let p : t.0 ≡ u.0 = (cons_head e.label d.label t.0 u.0 (ap (λ (x : Tail). x.0) same)).1 in
    let q : e.cost + t.1 ≡ d.cost + u.1 = ap (λ (x : Tail). x.1) same in
    let r : t.1 ≡ u.1 = omega (arith, c, q) in
    rw (p, r) refl

tails_same : (e d : Edge) (ts us : List Tail) → e.cost ≡ d.cost
    → map (along e) ts ≡ map (along d) us → ts ≡ us
tails_same e d [] [] c same = refl
tails_same e d [] (u ∷ us) c same = absurd (nil_cons (along d u) (map (along d) us) same)
tails_same e d (t ∷ ts) [] c same = absurd (nil_cons (along e t) (map (along e) ts) (sym same))
tails_same e d (t ∷ ts) (u ∷ us) c same =
    let p = cons_head (along e t) (along d u) (map (along e) ts) (map (along d) us) same in
    rw (tail_same e d t u c p.0, tails_same e d ts us c p.1) refl

-- an edge of one text and one of another, with the same label, cost and tails
pub record Alike (done more : List (List Tail)) (e d : Edge) : Type 0 where
  pub label : e.label ≡ d.label
  pub cost : e.cost ≡ d.cost
  pub tails : get_or done e.target.0 [] ≡ get_or more d.target.0 []

abbrev pub AllAlike : List (List Tail) → List (List Tail) → List Edge → List Edge → Type 0
AllAlike done more [] [] = Unit {0}
AllAlike done more [] (d ∷ ds) = ⊥
AllAlike done more (e ∷ es) [] = ⊥
AllAlike done more (e ∷ es) (d ∷ ds) = Alike done more e d × AllAlike done more es ds

first_label : (e d : Edge) (ts us : List Tail) (xs ys : List Tail) → IsFree ts → IsFree us
    → map (along e) ts ++ xs ≡ map (along d) us ++ ys → e.label ≡ d.label
first_label e d [] us xs ys f g same = absurd f
first_label e d (t ∷ ts) [] xs ys f g same = absurd g
first_label e d (t ∷ ts) (u ∷ us) xs ys f g same =
    (cons_head e.label d.label t.0 u.0
    (ap (λ (x : Tail). x.0) (cons_head (along e t) (along d u) (map (along e) ts ++ xs)
    (map (along d) us ++ ys) same).0)).0

costs_same : (e d : Edge) (ts us : List Tail) → IsFree ts → IsFree us
    → map (along e) ts ≡ map (along d) us → e.cost ≡ d.cost
costs_same e d ts us f g same =
    let a : d.cost ≤ e.cost = some_free e.cost d.cost e ts refl f
    (subst (AtLeast d.cost) (sym same) (at_least d us)) in
    let b : e.cost ≤ d.cost = some_free d.cost e.cost d us refl g
    (subst (AtLeast e.cost) same (at_least e ts)) in
    omega (arith, a, b)

no_ways : (d : Edge) (us ys : List Tail) → IsFree us → [] ≡ map (along d) us ++ ys → ⊥
no_ways d [] ys g same = absurd g
no_ways d (u ∷ us) ys g same = nil_cons (along d u) (map (along d) us ++ ys) same

abbrev pub Rising : List Edge → Type 0
Rising [] = Unit {0}
Rising (e ∷ es) = Rises e.label es

rising_rest : (l : ℕ) (es : List Edge) → Rises l es → Rising es
rising_rest l [] r = tt
rising_rest l (e ∷ es) r = r.1

-- Nodes of two texts that map one list have the same labels and costs, and targets that map the
-- same.
pub alike : (done more : List (List Tail)) (es ds : List Edge) → Rising es → Rising ds
    → AllFree done es → AllFree more ds → ways done es ≡ ways more ds → AllAlike done more es ds
alike done more [] [] r s f g same = tt
alike done more [] (d ∷ ds) r s f g same =
    absurd (no_ways d (get_or more d.target.0 []) (ways more ds) g.0 same)
alike done more (e ∷ es) [] r s f g same =
    absurd (no_ways e (get_or done e.target.0 []) (ways done es) f.0 (sym same))
alike done more (e ∷ es) (d ∷ ds) r s f g same =
    let ts = get_or done e.target.0 [] in
    let us = get_or more d.target.0 [] in
    let lab = first_label e d ts us (ways done es) (ways more ds) f.0 g.0 same in
    let begins : AllByRecursion (Begins e.label) (map (along d) us) =
    subst (λ x. AllByRecursion (Begins x) (map (along d) us)) (sym lab) (all_begin d us) in
    let above : AllByRecursion (Above e.label) (ways more ds) =
    subst (λ x. AllByRecursion (Above x) (ways more ds)) (sym lab)
    (ways_above more d.label ds s) in
    let p = parts e.label (map (along e) ts) (ways done es) (map (along d) us) (ways more ds)
    (all_begin e ts) (ways_above done e.label es r) begins above same in
    let c = costs_same e d ts us f.0 g.0 p.0 in (
      record { label = lab; cost = c; tails = tails_same e d ts us c p.0 },
      alike done more es ds (rising_rest e.label es r) (rising_rest d.label ds s) f.1 g.1 p.1,
    )

-- what the rules say of the nodes, as far as this law needs it
pub record Lawful (nodes : List (List Edge)) (known : List (List Tail)) : Type 0 where
  pub maps : (i : ℕ) → i < length nodes → get_or known i [] ≡ mapped known (get_or nodes i [])
  pub rising : (i : ℕ) → Rising (get_or nodes i [])
  pub below : (i : ℕ) → AllByRecursion (λ (e : Edge). e.target.0 < i) (get_or nodes i [])
  pub free : (i : ℕ) → AllFree known (get_or nodes i [])
  pub once : (i j : ℕ) → i < length nodes → j < length nodes
      → same_edges (get_or nodes i []) (get_or nodes j []) ≡ true → i ≡ j

pub and_true : (a b c d : Bool) → a ≡ true → b ≡ true → c ≡ true → d ≡ true
    → (a && b && c && d) ≡ true
and_true a b c d e f g h = rw (e, f, g, h) refl

-- alike edges of one text, whose targets are told apart by what they map, are the same
alike_same : (known : List (List Tail)) (k : ℕ) (es ds : List Edge)
    → ((a b : ℕ) → a < k → b < k → get_or known a [] ≡ get_or known b [] → a ≡ b)
    → AllByRecursion (λ (e : Edge). e.target.0 < k) es
    → AllByRecursion (λ (e : Edge). e.target.0 < k) ds → AllAlike known known es ds
    → same_edges es ds ≡ true
alike_same known k [] [] apart a b all = refl
alike_same known k [] (d ∷ ds) apart a b all = absurd all
alike_same known k (e ∷ es) [] apart a b all = absurd all
alike_same known k (e ∷ es) (d ∷ ds) apart a b all =
    and_true (eqb e.label d.label) (eqb e.cost d.cost) (eqb e.target.0 d.target.0)
    (same_edges es ds)
    (eq-eqb _ _ all.0.label) (eq-eqb _ _ all.0.cost)
    (eq-eqb _ _ (apart e.target.0 d.target.0 a.0 b.0 all.0.tails))
    (alike_same known k es ds apart a.1 b.1 all.1)

pub below_less : (j k : ℕ) (es : List Edge) → j ≤ k
    → AllByRecursion (λ (e : Edge). e.target.0 < j) es
    → AllByRecursion (λ (e : Edge). e.target.0 < k) es
below_less j k [] h all = tt
below_less j k (e ∷ es) h all = (omega (arith, h, all.0), below_less j k es h all.1)

pub no_end_at : (d : Edge) (us rest : List Tail) → IsFree us
    → ([], 0) ∷ [] ≡ map (along d) us ++ rest → ⊥
no_end_at d [] rest f same = absurd f
no_end_at d (u ∷ us) rest f same =
    nil_cons d.label u.0 (ap (λ (x : Tail). x.0)
    (cons_head ([], 0) (along d u) [] (map (along d) us ++ rest) same).0)

-- two nodes of one text that map the same have the same edges
same_node : (known : List (List Tail)) (k : ℕ) (es ds : List Edge)
    → ((a b : ℕ) → a < k → b < k → get_or known a [] ≡ get_or known b [] → a ≡ b) → Rising es
    → Rising ds → AllFree known es → AllFree known ds
    → AllByRecursion (λ (e : Edge). e.target.0 < k) es
    → AllByRecursion (λ (e : Edge). e.target.0 < k) ds → mapped known es ≡ mapped known ds
    → same_edges es ds ≡ true
same_node known k [] [] apart r s f g a b same = refl
same_node known k [] (d ∷ ds) apart r s f g a b same =
    absurd (no_end_at d (get_or known d.target.0 []) (ways known ds) g.0 same)
same_node known k (e ∷ es) [] apart r s f g a b same =
    absurd (no_end_at e (get_or known e.target.0 []) (ways known es) f.0 (sym same))
same_node known k (e ∷ es) (d ∷ ds) apart r s f g a b same =
    alike_same known k (e ∷ es) (d ∷ ds) apart a b
    (alike known known (e ∷ es) (d ∷ ds) r s f g same)

-- Within one text no two nodes map the same.
pub apart : (nodes : List (List Edge)) (known : List (List Tail)) → Lawful nodes known → (k : ℕ)
    → k ≤ length nodes → (a b : ℕ) → a < k → b < k → get_or known a [] ≡ get_or known b [] → a ≡ b
apart nodes known valid zero h a b la lb same = absurd (omega (arith, la))
apart nodes known valid (suc k) h a b la lb same =
    let ea = valid.maps a (omega (arith, la, h)) in
    let eb = valid.maps b (omega (arith, lb, h)) in
    valid.once a b (omega (arith, la, h)) (omega (arith, lb, h))
    (same_node known k (get_or nodes a []) (get_or nodes b [])
    (apart nodes known valid k (omega (arith, h)))
    (valid.rising a) (valid.rising b) (valid.free a) (valid.free b)
    (below_less a k (get_or nodes a []) (omega (arith, la)) (valid.below a))
    (below_less b k (get_or nodes b []) (omega (arith, lb)) (valid.below b))
    (sym ea ∙ same ∙ eb))
