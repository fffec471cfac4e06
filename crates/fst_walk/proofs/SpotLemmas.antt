-- From one transducer cursor to the one behind an arc, and the root.
use Rattle.fst_code.specs.Lists.{root_paths}
use Rattle.fst_code.specs.Tails.{Tail, tails}
use Rattle.fst_code.specs.Transducers.{IsTransducer}
use Rattle.fst_walk.specs.Arcs.{has_that_label}
use Rattle.fst_walk.specs.Fronts.{is_front, behind}
use Rattle.fst_walk.specs.Spots.{IsPlace, IsSpot}
use Rattle.fst_walk.specs.declared.spot.Spot.{Spot}
use Rattle.sg_base.specs.declared.node.Edge.{Edge}
use Rattle.std.proofs.Common.{◌≡◌, ◌≤◌, ◌<◌, ◌+◌, ◌-◌, ℕ, Bool, true, false, List, [], ◌∷◌, ◌++◌}
use Rattle.std.proofs.Common.{length, get_or, refl, sym, ap, ◌∙◌, subst, arith, Some, None}
use Rattle.std.proofs.Common.{zero-add}
use Rattle.std.proofs.lemmas.List.{append-nil}
use Rattle.std.specs.List.{find}
use Rattle.fst_walk.proofs.ArcLemmas.{find_none, find_split}
use Rattle.fst_walk.proofs.PlaceLemmas.{place_cost, place_front, place_ordinal}
use Rattle.fst_walk.proofs.NodeLemmas.{arc_node, arc_place, node_fronts, others_label}

-- what an arc that a test finds leads to
pub record Stepped (nodes : List (List Edge)) (p : List ℕ) (c o : ℕ) (a : Edge) : Type 0 where
  pub cost : c + a.cost ≤ 2147483647
  pub ordinal : o + a.before ≤ 4194304
  pub is_node : a.target.0 < length nodes
  pub meets : IsPlace (root_paths nodes) (tails nodes) (p ++ a.label ∷ []) a.target.0 (c + a.cost)
      (o + a.before)

pub stepped : (test : Edge → Bool) (nodes : List (List Edge)) → IsTransducer nodes
    → (p : List ℕ) (n c o : ℕ)
    (a : Edge) → n < length nodes → find test (get_or nodes n []) ≡ Some a
    → IsPlace (root_paths nodes) (tails nodes) p n c o → Stepped nodes p c o a
stepped test nodes s p n c o a h f at =
    let sp = find_split test (get_or nodes n []) a f in
    let m = arc_place nodes s (root_paths nodes) p n c o sp.front sp.rest a h sp.is at in
    let k = arc_node nodes s n sp.front sp.rest a h sp.is in
    record {
      cost = place_cost (root_paths nodes) (tails nodes) _ _ _ _ 2147483647 m (s.some a.target.0 k)
          s.cheap;
      ordinal = let e = place_ordinal (root_paths nodes) (tails nodes) _ _ _ _ m in
          omega (arith, e, s.paths);
      is_node = k;
      meets = m;
    }

-- the same, of arcs that a view shows
pub found_step : (test : Edge → Bool) (nodes : List (List Edge)) → IsTransducer nodes
    → (p : List ℕ) (spot : Spot) (es : List Edge) (a : Edge) → es ≡ get_or nodes spot.node.0 []
    → Some a ≡ find test es → IsSpot nodes p spot → Stepped nodes p spot.cost spot.ordinal a
found_step test nodes s p spot es a e h is =
    stepped test nodes s p spot.node.0 spot.cost spot.ordinal a is.is_node
    (ap (find test) (sym e) ∙ sym h) is.meets

-- no arc has the label: no path goes on by it
pub no_step : (nodes : List (List Edge)) → IsTransducer nodes → (p : List ℕ) (l n c o : ℕ)
    → n < length nodes
    → find (has_that_label l) (get_or nodes n []) ≡ None
    → IsPlace (root_paths nodes) (tails nodes) p n c o
    → is_front (root_paths nodes) (p ++ l ∷ []) ≡ false
no_step nodes s p l n c o h f at =
    place_front (root_paths nodes) (tails nodes) p (l ∷ []) n c o at ∙ node_fronts nodes s n l h
    ∙ others_label l (get_or nodes n []) (find_none (has_that_label l) (get_or nodes n []) f)

behind_nothing : (ts : List Tail) → behind [] 0 ts ≡ ts
behind_nothing [] = refl
behind_nothing (t ∷ ts) =
    let e : (let u : Tail = (t.0, 0 + t.1) in u) ≡ t =
    ap (λ (n : ℕ). (let u : Tail = (t.0, n) in u)) (zero-add t.1) in
    ap (λ (u : Tail). u ∷ behind [] 0 ts) e ∙ ap (λ (us : List Tail). t ∷ us) (behind_nothing ts)

-- the root under no bytes
pub root_place : (nodes : List (List Edge)) (root : ℕ) → root + 1 ≡ length nodes
    → IsPlace (root_paths nodes) (tails nodes) [] root 0 0
root_place nodes root e =
    let r : length nodes - 1 ≡ root = omega (arith, e) in
    record {
      before = [];
      after = [];
      is = ap (tails nodes) r ∙ sym (append-nil (behind [] 0 (tails nodes root))
          ∙ behind_nothing (tails nodes root));
      place = refl;
      others = tt;
    }

-- the spot that an arc leads to
pub spot_is : (nodes : List (List Edge)) (bytes : List ℕ) (l : ℕ) (spot next : Spot) (a : Edge)
    → Stepped nodes bytes spot.cost spot.ordinal a → a.label ≡ l → next.node.0 ≡ a.target.0
    → next.cost ≡ spot.cost + a.cost → next.ordinal ≡ spot.ordinal + a.before
    → IsSpot nodes (bytes ++ l ∷ []) next
spot_is nodes bytes l spot next a st e n c o =
    let P0 : ℕ → Type 0 = λ x. IsPlace (root_paths nodes) (tails nodes) (bytes ++ x ∷ []) a.target.0
    (spot.cost + a.cost) (spot.ordinal + a.before) in
    let m0 = subst P0 e st.meets in
    let P1 : ℕ → Type 0 = λ x. IsPlace (root_paths nodes) (tails nodes) (bytes ++ l ∷ []) x
    (spot.cost + a.cost) (spot.ordinal + a.before) in
    let m1 = subst P1 (sym n) m0 in
    let P2 : ℕ → Type 0 = λ x. IsPlace (root_paths nodes) (tails nodes) (bytes ++ l ∷ [])
    next.node.0 x (spot.ordinal + a.before) in
    let m2 = subst P2 (sym c) m1 in
    let P3 : ℕ → Type 0 = λ x. IsPlace (root_paths nodes) (tails nodes) (bytes ++ l ∷ [])
    next.node.0 next.cost x in
    record { is_node = omega (arith, n, st.is_node); meets = subst P3 (sym o) m2 }

-- a spot's bytes begin some path
begun_any : (ts : List Tail) → 0 < length ts → is_front ts [] ≡ true
begun_any [] h = absurd (omega (arith, h))
begun_any (t ∷ ts) h = refl

pub spot_is_front : (t : List (List Edge)) → IsTransducer t → (bytes : List ℕ) (spot : Spot)
    → IsSpot t bytes spot
    → is_front (root_paths t) bytes ≡ true
spot_is_front t s bytes spot is =
    ap (is_front (root_paths t)) (sym (append-nil bytes))
    ∙ place_front (root_paths t) (tails t) bytes [] spot.node.0 spot.cost spot.ordinal is.meets
    ∙ begun_any (tails t spot.node.0) (s.some spot.node.0 is.is_node)
