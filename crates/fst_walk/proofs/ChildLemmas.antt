-- Children of a node, in the list of paths.
use Rattle.fst_code.specs.Lists.{root_paths}
use Rattle.fst_code.specs.Tails.{tails}
use Rattle.fst_code.specs.Transducers.{Rises, IsTransducer}
use Rattle.fst_walk.specs.Arcs.{is_from, has_that_label}
use Rattle.fst_walk.specs.Children.{NoneFrom, IsChild}
use Rattle.fst_walk.specs.Fronts.{is_front, has_label}
use Rattle.fst_walk.specs.Spots.{IsSpot}
use Rattle.fst_walk.specs.declared.children.Child.{Child}
use Rattle.fst_walk.specs.declared.spot.Spot.{Spot}
use Rattle.sg_base.specs.declared.node.Edge.{Edge}
use Rattle.std.proofs.Common.{◌≡◌, ◌≤◌, ◌<◌, ℕ, Bool, true, false, not, ◌&&◌, List, [], ◌∷◌}
use Rattle.std.proofs.Common.{◌++◌, get_or, refl, sym, ap, ◌∙◌, subst, arith, eqb, leb, eq-eqb, ◌⊎◌}
use Rattle.std.proofs.Common.{inl, inr, Some, None}
use Rattle.std.proofs.lemmas.Bool.{ne_eqb, or_from, or_left, or_right, or_parts, leb-true}
use Rattle.std.proofs.lemmas.Bool.{and_parts, and_cases, leb-false, eqb-true}
use Rattle.std.specs.List.{AllByRecursion, find}
use Rattle.fst_walk.proofs.ArcLemmas.{find_none, find_split}
use Rattle.fst_walk.proofs.PlaceLemmas.{place_front}
use Rattle.fst_walk.proofs.NodeLemmas.{node_fronts, rises_rest}

pub spot_front : (t : List (List Edge)) → IsTransducer t → (at : List ℕ) (l : ℕ) (spot : Spot)
    → IsSpot t at spot
    → is_front (root_paths t) (at ++ l ∷ []) ≡ has_label l (get_or t spot.node.0 [])
spot_front t s at l spot is =
    place_front (root_paths t) (tails t) at (l ∷ []) spot.node.0 spot.cost spot.ordinal is.meets
    ∙ node_fronts t s spot.node.0 l is.is_node

not_false : (b : Bool) → not b ≡ false → b ≡ true
not_false true h = refl
not_false false h = cc

misses_by : (f x l : ℕ) → (leb f l ≡ false) ⊎ (not (eqb l 29) ≡ false) → f ≤ x → (x ≡ 29 → ⊥)
    → x ≡ l → ⊥
misses_by f x l (inl h) k n e = let m = leb-false f l h in omega (arith, m, k, e)
misses_by f x l (inr h) k n e = n (e ∙ eqb-true l 29 (not_false (eqb l 29) h))

-- an arc that isn't from f on has no label from f on
misses_at : (f x l : ℕ) → (leb f l && not (eqb l 29)) ≡ false → f ≤ x → (x ≡ 29 → ⊥) → x ≡ l → ⊥
misses_at f x l h k n e = misses_by f x l (and_cases (leb f l) (not (eqb l 29)) h) k n e

none_label : (f x : ℕ) (es : List Edge) → AllByRecursion (λ (u : Edge). is_from f u ≡ false) es
    → f ≤ x → (x ≡ 29 → ⊥)
    → has_label x es ≡ false
none_label f x [] a k n = refl
none_label f x (e ∷ es) a k n =
    or_from _ _ (ne_eqb x e.label (misses_at f x e.label a.0 k n)) (none_label f x es a.1 k n)

less_label : (x : ℕ) (l : ℕ) (es : List Edge) → AllByRecursion (λ (u : Edge). l < u.label) es
    → x < l → has_label x es ≡ false
less_label x l [] a k = refl
less_label x l (e ∷ es) a k =
    or_from _ _ (ne_eqb x e.label (λ h. omega (arith, h, k, a.0))) (less_label x l es a.1 k)

label_append : (x : ℕ) (us vs : List Edge) → has_label x us ≡ false → has_label x vs ≡ false
    → has_label x (us ++ vs) ≡ false
label_append x [] vs a b = b
label_append x (u ∷ us) vs a b =
    let p = or_parts (eqb x u.label) (has_label x us) a in
    or_from _ _ p.0 (label_append x us vs p.1 b)

has_here : (us vs : List Edge) (a : Edge) → has_label a.label (us ++ a ∷ vs) ≡ true
has_here [] vs a = or_left _ _ (eq-eqb a.label a.label refl)
has_here (u ∷ us) vs a = or_right _ _ (has_here us vs a)

pub child_none : (t : List (List Edge)) → IsTransducer t
    → (at : List ℕ) (f : ℕ) (spot : Spot) (es : List Edge) → IsSpot t at spot
    → es ≡ get_or t spot.node.0 [] → find (is_from f) es ≡ None → NoneFrom (root_paths t) at f
child_none t s at f spot es is e n = λ x k h.
    spot_front t s at x spot is ∙ ap (has_label x) (sym e)
    ∙ none_label f x es (find_none (is_from f) es n) k h

between_at : (f x : ℕ) (us vs : List Edge) (a : Edge) → Rises (us ++ a ∷ vs)
    → AllByRecursion (λ (u : Edge). is_from f u ≡ false) us → f ≤ x → x < a.label → (x ≡ 29 → ⊥)
    → has_label x (us ++ a ∷ vs) ≡ false
between_at f x us vs a r none k l n =
    label_append x us (a ∷ vs) (none_label f x us none k n)
    (or_from _ _ (ne_eqb x a.label (λ h. omega (arith, h, l)))
    (less_label x a.label vs (rises_rest us vs a r) l))

apart_end_by : (b : Bool) → not b ≡ true → b ≡ true → ⊥
apart_end_by true h e = cc
apart_end_by false h e = cc

apart_end : (l : ℕ) → not (eqb l 29) ≡ true → l ≡ 29 → ⊥
apart_end l h e = apart_end_by (eqb l 29) h (eq-eqb l 29 e)

pub child_some : (t : List (List Edge)) → IsTransducer t
    → (at : List ℕ) (f : ℕ) (spot : Spot) (es : List Edge) (a : Edge) (c : Child)
    → IsSpot t at spot → es ≡ get_or t spot.node.0 [] → find (is_from f) es ≡ Some a
    → c.label ≡ a.label
    → IsSpot t (at ++ a.label ∷ []) c.spot → IsChild t at f c
child_some t s at f spot es a c is e n l next =
    let sp = find_split (is_from f) es a n in
    let r : Rises (sp.front ++ a ∷ sp.rest) =
    subst Rises (sym e ∙ sp.is) (s.node spot.node.0 is.is_node).rises in
    let p = and_parts (leb f a.label) (not (eqb a.label 29)) sp.test in
    let whole : get_or t spot.node.0 [] ≡ sp.front ++ a ∷ sp.rest = sym e ∙ sp.is in
    record {
      least = let k = leb-true f a.label p.0 in omega (arith, k, l);
      goes_on = λ h. apart_end a.label p.1 (sym l ∙ h);
      between = λ x k m h. spot_front t s at x spot is ∙ ap (has_label x) whole
          ∙ between_at f x sp.front sp.rest a r sp.none k (omega (arith, m, l)) h;
      front = ap (λ y. is_front (root_paths t) (at ++ y ∷ [])) l ∙ spot_front t s at a.label spot is
          ∙ ap (has_label a.label) whole ∙ has_here sp.front sp.rest a;
      spot = subst (λ y. IsSpot t (at ++ y ∷ []) c.spot) (sym l) next;
    }

-- an arc with the label makes a front
pub label_front : (t : List (List Edge)) → IsTransducer t
    → (at : List ℕ) (l : ℕ) (spot : Spot) (es : List Edge) (a : Edge)
    → IsSpot t at spot → es ≡ get_or t spot.node.0 [] → find (has_that_label l) es ≡ Some a
    → is_front (root_paths t) (at ++ l ∷ []) ≡ true
label_front t s at l spot es a is e n =
    let sp = find_split (has_that_label l) es a n in
    let same : a.label ≡ l = eqb-true _ _ sp.test in
    spot_front t s at l spot is ∙ ap (has_label l) (sym e ∙ sp.is)
    ∙ ap (λ x. has_label x (sp.front ++ a ∷ sp.rest)) (sym same) ∙ has_here sp.front sp.rest a
