-- The entries behind the arcs of a node share what is under the entry over it, in order.
use Rattle.std.proofs.Common.{◌≡◌, ◌≤◌, ◌<◌, ◌+◌, ◌-◌, ◌*◌, inl, inr, ℕ, zero, suc, Bool, true}
use Rattle.std.proofs.Common.{false, cond, nat_eq, List, [], ◌∷◌, ◌++◌, map, zero-mul, one-mul}
use Rattle.std.proofs.Common.{refl, sym, ap, ◌∙◌, subst, arith}
use Rattle.std.specs.Cmp.Lexicographic.{slice_cmp}
use Rattle.std.specs.Ordering.{is_lt, nat_cmp, ordering_then}
use Rattle.std.specs.declared.cmp.Ordering.{Ordering}
use Rattle.std.specs.declared.cmp.Ordering.TheVariants.{Less, Equal}
use Rattle.std.proofs.Math.Nat.{mul-le-mul_right}
use Rattle.std.proofs.lemmas.Bool.{eqb-true, eq-eqb}
use Rattle.std.proofs.lemmas.Bool.Decides.{nat_tests}
use Rattle.sg_base.specs.Lists.{In, Pairs}
use Rattle.sg_base.specs.declared.limits.TheConstants.{MOST_WEIGHT}
use Rattle.sg_base.specs.declared.node.Edge.{Edge}
use Rattle.sg_base.proofs.ListLemmas.{in-append, in-map}
use Rattle.fst_code.specs.Tails.{Tail}
use Rattle.path_desk.specs.Entries.{Queued}
use Rattle.path_desk.proofs.OrderLemmas.{entry_lt}
use Rattle.best_first.specs.Families.{IsChild, IsFamily}
use Rattle.best_first.specs.Lists.{passing}
use Rattle.best_first.specs.Matches.{Match, covers, Best}
use Rattle.best_first.specs.Steps.{IsFree, child}
use Rattle.best_first.proofs.ChildLemmas.{by_arc, cost_within, passing_children, no_children}
use Rattle.best_first.proofs.ChildLemmas.{over-child, best-over}
use Rattle.best_first.proofs.CoverLemmas.{covers-start}
use Rattle.best_first.proofs.EntryLemmas.{within_start}
use Rattle.best_first.proofs.MemberLemmas.{in-left, in-right}
use Rattle.best_first.proofs.Overs.{IsSpread, IsOver}

none_later : (x : Edge) (xs : List Edge) (l : ℕ) → ((y : Edge) → In y xs → x.label < y.label)
    → l ≤ x.label → passing (λ (u : Edge). nat_eq u.label l) xs ≡ 0
none_later x [] l up e = refl
none_later x (y ∷ ys) l up e =
    at_y (nat_eq y.label l) refl (none_later x ys l (λ z i. up z (inr i)) e)
  where
    at_y : (c : Bool) → nat_eq y.label l ≡ c → passing (λ (u : Edge). nat_eq u.label l) ys ≡ 0
        → cond c 1 0 + passing (λ (u : Edge). nat_eq u.label l) ys ≡ 0
    at_y true q h =
        let low : x.label < y.label = up y (inl refl) in
        let same : y.label ≡ l = eqb-true y.label l q in
        absurd (omega (arith, low, same, e))
    at_y false q h = omega (arith, h)

-- one of rising labels is each of them once
one_of_labels : (b : Edge) (xs : List Edge) → Pairs (λ x y. x.label < y.label) xs → In b xs
    → passing (λ (u : Edge). nat_eq u.label b.label) xs ≡ 1
one_of_labels b [] up i = elim i [ ]
one_of_labels b (x ∷ xs) up (inl i) =
    let same : x.label ≡ b.label = ap (λ (z : Edge). z.label) (sym i) in
    let n = none_later x xs b.label up.0 (omega (arith, same)) in
    ap (λ z. cond z 1 0 + passing (λ (u : Edge). nat_eq u.label b.label) xs)
    (eq-eqb x.label b.label same) ∙ (omega (arith, n))
one_of_labels b (x ∷ xs) up (inr i) =
    let low : x.label < b.label = up.0 b i in
    let h = one_of_labels b xs up.1 i in
    ap (λ z. cond z 1 0 + passing (λ (u : Edge). nat_eq u.label b.label) xs)
    (differ x.label b.label low) ∙ (omega (arith, h))
  where
    differ : (m n : ℕ) → m < n → nat_eq m n ≡ false
    differ m n l = grind (arith, nat_tests)

passing-append : {X : Type 0} (q : X → Bool) (xs ys : List X)
    → passing q (xs ++ ys) ≡ passing q xs + passing q ys
passing-append q [] ys = omega arith
passing-append q (x ∷ xs) ys = let h = passing-append q xs ys in omega (arith, h)

module _ (all : List Match) (ways : ℕ → List Tail) (p : Queued) (edges us vs : List Edge) (a : Edge)
    (o : IsOver all ways p) (d : IsSpread ways edges p.entry.node.0) (f : IsFree edges us vs a)
  where
    parted_at : (m : Match) → In m all → (c : Bool) → covers m p ≡ c
        → cond c 1 0 ≡ cond (covers m (child p a)) 1 0 + passing (covers m)
        (map (child p) us ++ map (child p) vs)
    parted_at m i true c =
        let w = by_arc all ways p edges o d m i c in
        let s : p.entry.start ≡ m.start = covers-start m p c in
        let count = passing_children all ways p edges o d m edges w.0 w.1.0 s w.4 in
        let one = one_of_labels w.0 edges d.labels w.2 in
        let split : passing (covers m) (map (child p) edges)
        ≡ passing (covers m) (map (child p) (us ++ a ∷ vs)) =
        ap (λ zs. passing (covers m) (map (child p) zs)) f.is in
        let parts = parts_of us vs in
        let both = passing-append (covers m) (map (child p) us) (map (child p) vs) in
        omega (arith, count, one, split, parts, both)
      where
        parts_of : (xs ys : List Edge)
            → passing (covers m) (map (child p) (xs ++ a ∷ ys))
            ≡ passing (covers m) (map (child p) xs) + (cond (covers m (child p a)) 1 0 + passing
            (covers m) (map (child p) ys))
        parts_of [] ys = omega arith
        parts_of (x ∷ xs) ys = let h = parts_of xs ys in omega (arith, h)
    parted_at m i false c =
        let x = no_children all ways p edges o d m us c in
        let y = no_children all ways p edges o d m vs c in
        let z = no_children all ways p edges o d m (a ∷ []) c in
        let both = passing-append (covers m) (map (child p) us) (map (child p) vs) in
        omega (arith, x, y, z, both)

    in_us : (u : Edge) → In u us → In u edges
    in_us u i = subst (λ zs. In u zs) (sym f.is) (in-left u us (a ∷ vs) i)

    in_vs : (u : Edge) → In u vs → In u edges
    in_vs u i = subst (λ zs. In u zs) (sym f.is) (in-right u us (a ∷ vs) (inr i))

    in_a : In a edges
    in_a = subst (λ zs. In a zs) (sym f.is) (in-right a us (a ∷ vs) (inl refl))

    behind_label : (xs : List Edge) → Pairs (λ x y. x.label < y.label) (xs ++ a ∷ vs) → (u : Edge)
        → In u vs → a.label < u.label
    behind_label [] up u i = up.0 u i
    behind_label (x ∷ xs) up u i = behind_label xs up.1 u i

    is_child : (u : Edge) → IsChild p (child p u)
    is_child u = (u.label, refl, refl, omega arith)

    free_score : (child p a).entry.score ≡ p.entry.score
    free_score = ap (λ n. p.entry.score - n * p.entry.boost) f.free
        ∙ (let z = zero-mul p.entry.boost in omega (arith, z))

    dear : (u : Edge) → In u edges → (u.cost ≡ 0 → ⊥) → (child p u).entry.score < p.entry.score
    dear u i n =
        let low : 1 ≤ u.cost = positive u.cost n in
        let more : 1 * p.entry.boost ≤ u.cost * p.entry.boost =
        mul-le-mul_right p.entry.boost low in
        let w = cost_within all ways p edges o d u i in
        let most : u.cost * p.entry.boost ≤ (MOST_WEIGHT - p.entry.cost) * p.entry.boost =
        mul-le-mul_right p.entry.boost
        (let q : u.cost ≤ MOST_WEIGHT - p.entry.cost = omega (arith, w) in q) in
        let one = one-mul p.entry.boost in
        let least = o.least in
        let is = o.score_is in
        omega (arith, more, most, one, least, is)
      where
        positive : (c : ℕ) → (c ≡ 0 → ⊥) → 1 ≤ c
        positive zero g = absurd (g refl)
        positive (suc c) g = omega arith

    less_score : (x y : ℕ) (k : Ordering) → y < x → is_lt (ordering_then (nat_cmp y x) k) ≡ true
    less_score x y k h = let e : nat_cmp y x ≡ Less = grind (arith, nat_tests) in rw e refl

    before_dear : (u : Edge) → In u edges → (u.cost ≡ 0 → ⊥)
        → entry_lt (child p a) (child p u) ≡ true
    before_dear u i n =
        let low : (child p u).entry.score < (child p a).entry.score =
        subst (λ z. (child p u).entry.score < z) (sym free_score) (dear u i n) in
        ap is_lt (within_start (child p a) (child p u) refl)
        ∙ less_score (child p a).entry.score (child p u).entry.score
        (slice_cmp nat_cmp (child p a).bytes (child p u).bytes) low

    same_cmp : (x y : ℕ) → x ≡ y → nat_cmp x y ≡ Equal
    same_cmp x y e = grind (arith, nat_tests)

    less_cmp : (x y : ℕ) → x < y → nat_cmp x y ≡ Less
    less_cmp x y e = grind (arith, nat_tests)

    less_bytes : (q : List ℕ) (x y : ℕ) → x < y
        → is_lt (slice_cmp nat_cmp (q ++ x ∷ []) (q ++ y ∷ [])) ≡ true
    less_bytes [] x y h = let e = less_cmp x y h in rw e refl
    less_bytes (b ∷ q) x y h = let e = same_cmp b b refl in rw e (less_bytes q x y h)

    equal_score : (u : Edge) → u.cost ≡ 0 → (child p u).entry.score ≡ (child p a).entry.score
    equal_score u e = ap (λ n. p.entry.score - n * p.entry.boost) e
        ∙ (let z = zero-mul p.entry.boost in
        (let q : p.entry.score - 0 * p.entry.boost ≡ p.entry.score = omega (arith, z) in q))
        ∙ sym free_score

    before_equal : (u : Edge) → u.cost ≡ 0 → a.label < u.label
        → entry_lt (child p a) (child p u) ≡ true
    before_equal u e h =
        let s = same_cmp (child p u).entry.score (child p a).entry.score (equal_score u e) in
        ap is_lt (within_start (child p a) (child p u) refl)
        ∙ ap (λ c. is_lt (ordering_then c
        (slice_cmp nat_cmp (child p a).bytes (child p u).bytes))) s
        ∙ less_bytes p.bytes a.label u.label h

    behind_free : (u : Edge) → In u vs → (c : Bool) → nat_eq u.cost 0 ≡ c
        → entry_lt (child p a) (child p u) ≡ true
    behind_free u i true e = before_equal u (eqb-true u.cost 0 e)
        (behind_label us (subst (Pairs (λ x y. x.label < y.label)) f.is d.labels) u i)
    behind_free u i false e = before_dear u (in_vs u i)
        (λ q. let never : true ≡ false = sym (eq-eqb u.cost 0 q) ∙ e in cc)

    sibling_at : (e : Queued) → In e (map (child p) us ++ map (child p) vs)
        → (u : Edge) × In u edges × (e ≡ child p u) × (entry_lt (child p a) (child p u) ≡ true)
    sibling_at e i =
        elim (in-append e (map (child p) us) (map (child p) vs) i) as
        (λ _. (u : Edge) × In u edges × (e ≡ child p u)
        × (entry_lt (child p a) (child p u) ≡ true)) [
          | inl j ↦ let r = in-map (child p) e us j in
              (r.0, in_us r.0 r.1, r.2, before_dear r.0 (in_us r.0 r.1) (f.first r.0 r.1))
          | inr j ↦ let r = in-map (child p) e vs j in
              (r.0, in_vs r.0 r.1, r.2, behind_free r.0 r.1 (nat_eq r.0.cost 0) refl)
        ]

    over_sound : (u : Edge) → In u edges → Best all (child p u) × IsOver all ways (child p u)
    over_sound u i = let c = over-child all ways p edges o d u i in
        (best-over all ways (child p u) c, c)

    -- the entries behind the arcs of a node are a family
    pub family-over : IsFamily all (IsOver all ways) p (child p a)
        (map (child p) us ++ map (child p) vs)
    family-over = record {
      child = is_child a;
      same_score = free_score;
      child_sound = over_sound a in_a;
      sibling = λ e i. let r = sibling_at e i in (
        subst (λ z. IsChild p z) (sym r.2) (is_child r.0),
        subst (λ z. entry_lt (child p a) z ≡ true) (sym r.2) r.3,
      );
      sibling_sound = λ e i. let r =
          sibling_at e i in subst (λ z. Best all z × IsOver all ways z) (sym r.2)
          (over_sound r.0 r.1);
      parted = λ m i. parted_at m i (covers m p) refl;
    }
