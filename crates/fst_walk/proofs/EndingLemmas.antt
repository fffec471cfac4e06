-- Where the paths under a transducer cursor end in the list.
use Rattle.fst_code.specs.Lists.{root_paths}
use Rattle.fst_code.specs.Tails.{Tail, along, tails, spread}
use Rattle.fst_code.specs.Transducers.{Rises, Counts, IsTransducer}
use Rattle.fst_walk.specs.Arcs.{is_at_least}
use Rattle.fst_walk.specs.Fronts.{behind, has_label}
use Rattle.fst_walk.specs.Spots.{IsPlace, IsSpot}
use Rattle.fst_walk.specs.Trails.{ending}
use Rattle.fst_walk.specs.declared.spot.Spot.{Spot}
use Rattle.sg_base.specs.declared.node.Edge.{Edge}
use Rattle.std.proofs.Common.{◌≡◌, ◌≤◌, ◌<◌, ◌+◌, ℕ, Bool, true, false, cond, ◌⊎◌, inl, inr}
use Rattle.std.proofs.Common.{List, [], ◌∷◌, ◌++◌, length, drop, get_or, map, refl, sym, ap, ◌∙◌}
use Rattle.std.proofs.Common.{subst, arith, eqb, eqb-true, append_assoc, length-append, add-zero}
use Rattle.std.proofs.Common.{Some, None}
use Rattle.std.proofs.lemmas.Bool.{le-leb, lt-leb, or_cases}
use Rattle.std.proofs.lemmas.List.{append-nil, drop_at}
use Rattle.std.specs.List.{AllByRecursion, find}
use Rattle.fst_walk.proofs.BoolLemmas.{clash}
use Rattle.fst_walk.proofs.FrontLemmas.{Clear, clear-left, clear-right, length-behind}
use Rattle.fst_walk.proofs.FrontLemmas.{spread-append}
use Rattle.fst_walk.proofs.PlaceLemmas.{place_ordinal, place_unique}
use Rattle.fst_walk.proofs.NodeLemmas.{arc_node, arc_place, counts_at, length-along, rises_front}
use Rattle.fst_walk.proofs.NodeLemmas.{rises_rest, zero_or}
use Rattle.fst_walk.proofs.SpotLemmas.{spot_is_front}
use Rattle.fst_walk.proofs.ChildLemmas.{spot_front}

-- what follows an arc
skip_arc_at : (f : ℕ) (u : Edge) (xs : List Edge) (b : Bool) → is_at_least f u ≡ b → b ≡ false
    → cond b (Some u) (find (is_at_least f) xs) ≡ find (is_at_least f) xs
skip_arc_at f u xs true i h = cc
skip_arc_at f u xs false i h = refl

skip : (f : ℕ) (us xs : List Edge) → AllByRecursion (λ (u : Edge). u.label < f) us
    → find (is_at_least f) (us ++ xs) ≡ find (is_at_least f) xs
skip f [] xs a = refl
skip f (u ∷ us) xs a =
    skip_arc_at f u (us ++ xs) (is_at_least f u) refl (lt-leb f u.label a.0) ∙ skip f us xs a.1

below_more : (m : ℕ) (us : List Edge) (a : Edge) → a.label ≡ m
    → AllByRecursion (λ (u : Edge). u.label < a.label) us
    → AllByRecursion (λ (u : Edge). u.label < m + 1) (us ++ a ∷ [])
below_more m [] a e h = (omega (arith, e), tt)
below_more m (u ∷ us) a e h = (omega (arith, e, h.0), below_more m us a e h.1)

take_head : (f : ℕ) (v : Edge) (vs : List Edge) → f ≤ v.label
    → find (is_at_least f) (v ∷ vs) ≡ Some v
take_head f v vs h = rw (le-leb f v.label h) refl

pub record Follows (t : List (List Edge)) (o l n : ℕ) (es : List Edge) : Type 0 where
  pub some : (e : Edge) → find (is_at_least (l + 1)) es ≡ Some e → o + e.before ≡ n
  pub none : find (is_at_least (l + 1)) es ≡ None → o + length (spread (tails t) es) ≡ n

some_same : (x y : Edge) → Some x ≡ Some y → x ≡ y
some_same x y e = cc

rest_by : (t : List (List Edge)) (o l n : ℕ) (us vs : List Edge) (a : Edge) → a.label ≡ l
    → Rises (us ++ a ∷ vs)
    → Counts (tails t) 0 (us ++ a ∷ vs) → o + a.before + length (tails t a.target.0) ≡ n
    → Follows t o l n (us ++ a ∷ vs)
rest_by t o l n us [] a e r k total =
    let low : find (is_at_least (l + 1)) (us ++ a ∷ []) ≡ None =
    ap (find (is_at_least (l + 1))) (sym (append-nil (us ++ a ∷ [])))
    ∙ skip (l + 1) (us ++ a ∷ []) [] (below_more l us a e (rises_front us [] a r)) in
    let c = counts_at (tails t) 0 us [] a k in
    let s = ap (λ (z : List Tail). length z) (spread-append (tails t) us (a ∷ [])) in
    let q = length-append (spread (tails t) us) (spread (tails t) (a ∷ [])) in
    let w = length-append (map (along a) (tails t a.target.0)) [] in
    let x = length-along a (tails t a.target.0) in
    record {
      some = λ d h. absurd (let z : None ≡ Some d = sym low ∙ h in cc);
      none = λ _. omega (arith, c, s, q, w, x, total);
    }
rest_by t o l n us (v ∷ vs) a e r k total =
    let above = rises_rest us (v ∷ vs) a r in
    let grouped : us ++ a ∷ (v ∷ vs) ≡ (us ++ a ∷ []) ++ v ∷ vs =
    sym (append_assoc us (a ∷ []) (v ∷ vs)) in
    let high : find (is_at_least (l + 1)) (us ++ a ∷ (v ∷ vs)) ≡ Some v =
    ap (find (is_at_least (l + 1))) grouped
    ∙ skip (l + 1) (us ++ a ∷ []) (v ∷ vs) (below_more l us a e (rises_front us (v ∷ vs) a r))
    ∙ take_head (l + 1) v vs (omega (arith, e, above.0)) in
    let c = counts_at (tails t) 0 us (v ∷ vs) a k in
    let d = counts_at (tails t) 0 (us ++ a ∷ []) vs v (subst (Counts (tails t) 0) grouped k) in
    let s = ap (λ (z : List Tail). length z) (spread-append (tails t) us (a ∷ [])) in
    let q = length-append (spread (tails t) us) (spread (tails t) (a ∷ [])) in
    let w = length-append (map (along a) (tails t a.target.0)) [] in
    let x = length-along a (tails t a.target.0) in
    record {
      some = λ y h. (let z : Some v ≡ Some y = sym high ∙ h in
          let b : v.before ≡ y.before = ap (λ (u : Edge). u.before) (some_same v y z) in
          omega (arith, c, d, s, q, w, x, total, b));
      none = λ h. absurd (let z : Some v ≡ None = sym high ∙ h in cc);
    }

-- a label that there is stands among others
pub record HasArc (l : ℕ) (es : List Edge) : Type 0 where
  pub front : List Edge
  pub arc : Edge
  pub rest : List Edge
  pub is : es ≡ front ++ arc ∷ rest
  pub label : arc.label ≡ l

has_arc_by : (l : ℕ) (e : Edge) (es : List Edge) (b : Bool) → eqb l e.label ≡ b
    → (b ≡ true) ⊎ (has_label l es ≡ true)
    → (has_label l es ≡ true → HasArc l es) → HasArc l (e ∷ es)
has_arc_by l e es true i h f =
    record { front = []; arc = e; rest = es; is = refl; label = sym (eqb-true l e.label i) }
has_arc_by l e es false i (inl h) f = absurd (clash h)
has_arc_by l e es false i (inr h) f =
    let r = f h in record {
      front = e ∷ r.front;
      arc = r.arc;
      rest = r.rest;
      is =
          ap (λ (z : List Edge). e ∷ z) r.is;
      label = r.label;
    }

has_arc : (l : ℕ) (es : List Edge) → has_label l es ≡ true → HasArc l es
has_arc l [] h = absurd (clash h)
has_arc l (e ∷ es) h = has_arc_by l e es (eqb l e.label) refl (or_cases _ _ h) (has_arc l es)

-- where what follows a child stands
pub follows : (t : List (List Edge)) → IsTransducer t → (p : List ℕ) (l : ℕ) (spot child : Spot)
    → IsSpot t p spot → IsSpot t (p ++ l ∷ []) child
    → Follows t spot.ordinal l (ending t child) (get_or t spot.node.0 [])
follows t s p l spot child is next =
    let has : has_label l (get_or t spot.node.0 []) ≡ true =
    sym (spot_front t s p l spot is) ∙ spot_is_front t s (p ++ l ∷ []) child next in
    let at = has_arc l (get_or t spot.node.0 []) has in
    let node = s.node spot.node.0 is.is_node in
    let place = arc_place t s (root_paths t) p spot.node.0 spot.cost spot.ordinal at.front at.rest
    at.arc is.is_node at.is is.meets in
    let P : ℕ → Type 0 = λ x. IsPlace (root_paths t) (tails t) (p ++ x ∷ []) at.arc.target.0
    (spot.cost + at.arc.cost) (spot.ordinal + at.arc.before) in
    let target : at.arc.target.0 < length t =
    arc_node t s spot.node.0 at.front at.rest at.arc is.is_node at.is in
    let u = place_unique (root_paths t) (tails t) (p ++ l ∷ []) at.arc.target.0
    (spot.cost + at.arc.cost) (spot.ordinal + at.arc.before)
    child.node.0 child.cost child.ordinal (subst P at.label place) next.meets
    (s.some at.arc.target.0 target) (s.some child.node.0 next.is_node) in
    subst (Follows t spot.ordinal l (ending t child)) (sym at.is)
    (rest_by t spot.ordinal l (ending t child) at.front at.rest at.arc at.label
    (subst Rises at.is node.rises)
    (subst (Counts (tails t) 0) at.is node.counts) (omega (arith, u.0, u.1)))

clear_nothing : (xs : List Tail) → Clear [] xs → xs ≡ []
clear_nothing [] a = refl
clear_nothing (x ∷ xs) a = absurd (clash (sym a.0))

-- the root has all
pub root_ending : (t : List (List Edge)) → IsTransducer t → (spot : Spot) → IsSpot t [] spot
    → ending t spot ≡ length (root_paths t)
root_ending t s spot is =
    let m = is.meets in
    let b : m.before ≡ [] = clear_nothing m.before (clear-left [] m.before m.after m.others) in
    let a : m.after ≡ [] = clear_nothing m.after (clear-right [] m.before m.after m.others) in
    let e = ap (λ (z : List Tail). length z) m.is in
    let f = length-append (m.before ++ behind [] spot.cost (tails t spot.node.0)) m.after in
    let g = length-append m.before (behind [] spot.cost (tails t spot.node.0)) in
    let h = length-behind [] spot.cost (tails t spot.node.0) in
    let o = m.place in
    let lb = ap (λ (z : List Tail). length z) b in
    let la = ap (λ (z : List Tail). length z) a in
    omega (arith, e, f, g, h, o, lb, la)

inner_by : (t : List (List Edge)) → IsTransducer t → (n : ℕ) → n < length t → (l : ℕ)
    → has_label l (get_or t n []) ≡ true → (n ≡ 0) ⊎ (0 < n)
    → tails t n ≡ spread (tails t) (get_or t n [])
inner_by t s n h l has (inl e) =
    absurd (clash (sym (ap (λ i. has_label l (get_or t i [])) e
    ∙ ap (has_label l) (s.the_end (omega (arith, h))).0) ∙ has))
inner_by t s n h l has (inr p) = s.inner n p h

-- a node with arcs spells them
pub inner_spread : (t : List (List Edge)) → IsTransducer t → (n : ℕ) → n < length t → (l : ℕ)
    → has_label l (get_or t n []) ≡ true
    → tails t n ≡ spread (tails t) (get_or t n [])
inner_spread t s n h l has = inner_by t s n h l has (zero_or n)

pub climbed : (t : List (List Edge)) → IsTransducer t
    → (p : List ℕ) (l : ℕ) (spot child : Spot) (es : List Edge) → IsSpot t p spot
    → IsSpot t (p ++ l ∷ []) child
    → es ≡ get_or t spot.node.0 [] → None ≡ find (is_at_least (l + 1)) es
    → ending t spot ≡ ending t child
climbed t s p l spot child es is next e f =
    let has : has_label l (get_or t spot.node.0 []) ≡ true =
    sym (spot_front t s p l spot is) ∙ spot_is_front t s (p ++ l ∷ []) child next in
    ap (λ (z : List Tail). spot.ordinal + length z) (inner_spread t s spot.node.0 is.is_node l has)
    ∙ (follows t s p l spot child is next).none (ap (find (is_at_least (l + 1))) (sym e) ∙ sym f)

pub turned : (t : List (List Edge)) → IsTransducer t
    → (p : List ℕ) (l : ℕ) (spot child : Spot) (es : List Edge) (a : Edge) → IsSpot t p spot
    → IsSpot t (p ++ l ∷ []) child
    → es ≡ get_or t spot.node.0 [] → Some a ≡ find (is_at_least (l + 1)) es
    → spot.ordinal + a.before ≡ ending t child
turned t s p l spot child es a is next e f =
    (follows t s p l spot child is next).some a (ap (find (is_at_least (l + 1))) (sym e) ∙ sym f)

-- the path at an end
pub path_here : (t : List (List Edge)) → IsTransducer t → (p : List ℕ) (s : Spot) → IsSpot t p s
    → s.node.0 ≡ 0
    → drop s.ordinal (root_paths t) ≡ (p, s.cost) ∷ drop (s.ordinal + 1) (root_paths t)
path_here t so p s is z =
    let m = is.meets in
    let ways : tails t s.node.0 ≡ ([], 0) ∷ [] =
    ap (tails t) z ∙ (so.the_end (omega (arith, is.is_node))).1 in
    let one : behind p s.cost (tails t s.node.0) ≡ (p, s.cost) ∷ [] =
    ap (behind p s.cost) ways ∙ ap (λ (q : List ℕ). (let u : Tail = (q, s.cost + 0) in u) ∷ [])
    (append-nil p)
    ∙ ap (λ n. (let u : Tail = (p, n) in u) ∷ []) (add-zero s.cost) in
    let all : root_paths t ≡ m.before ++ (p, s.cost) ∷ m.after =
    m.is ∙ ap (λ z. (m.before ++ z) ++ m.after) one
    ∙ append_assoc m.before ((p, s.cost) ∷ []) m.after in
    let n : length m.before ≡ s.ordinal = m.place in
    let more : length (m.before ++ (p, s.cost) ∷ []) ≡ s.ordinal + 1 =
    length-append m.before ((p, s.cost) ∷ []) ∙ (omega (arith, n)) in
    let first : drop s.ordinal (root_paths t) ≡ (p, s.cost) ∷ m.after =
    ap (drop s.ordinal) all ∙ drop_at m.before ((p, s.cost) ∷ m.after) s.ordinal n in
    let rest : drop (s.ordinal + 1) (root_paths t) ≡ m.after =
    ap (drop (s.ordinal + 1)) (all ∙ sym (append_assoc m.before ((p, s.cost) ∷ []) m.after))
    ∙ drop_at (m.before ++ (p, s.cost) ∷ []) m.after (s.ordinal + 1) more in
    first ∙ ap (λ (ts : List Tail). (p, s.cost) ∷ ts) (sym rest)

pub end_ending : (t : List (List Edge)) → IsTransducer t → (p : List ℕ) (s : Spot) → IsSpot t p s
    → s.node.0 ≡ 0 → ending t s ≡ s.ordinal + 1
end_ending t so p s is z =
    ap (λ (ts : List Tail). s.ordinal + length ts)
    (ap (tails t) z ∙ (so.the_end (omega (arith, is.is_node))).1)

pub ending_most : (t : List (List Edge)) → IsTransducer t → (p : List ℕ) (s : Spot) → IsSpot t p s
    → ending t s ≤ length (root_paths t)
ending_most t so p s is = place_ordinal (root_paths t) (tails t) p s.node.0 s.cost s.ordinal
    is.meets

pub root_first : (t : List (List Edge)) (spot : Spot) → IsSpot t [] spot → spot.ordinal ≡ 0
root_first t spot is =
    let m = is.meets in
    let b : m.before ≡ [] = clear_nothing m.before (clear-left [] m.before m.after m.others) in
    sym m.place ∙ ap (λ (z : List Tail). length z) b
