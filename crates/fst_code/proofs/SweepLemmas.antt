-- A pass over the nodes: what is left to look at decides.
use Rattle.std.proofs.Common.{◌≡◌, ◌<◌, ◌≤◌, ◌+◌, ◌*◌, ℕ, Bool, true, false, not, ◌||◌, eqb, List}
use Rattle.std.proofs.Common.{[], ◌∷◌, drop, get_or, length, refl, sym, ap, ◌∙◌, arith, Option}
use Rattle.std.proofs.Common.{Some, None}
use Rattle.std.proofs.Math.ListN.{drop_of_length-le}
use Rattle.sg_base.specs.declared.node.Edge.{Edge}
use Rattle.fst_code.specs.Bytes.{first_form, nodes_of, node_count, entry}
use Rattle.fst_code.specs.Rules.{over, in_nodes, or_first, broken_if, is_free, free_broken}
use Rattle.fst_code.specs.Rules.{IsFramed}
use Rattle.fst_code.proofs.BytesLemmas.{sizes}
use Rattle.fst_code.proofs.ViewLemmas.{parts_framed, room_of, over_next, sizes_next, over_passed}
use Rattle.fst_code.proofs.ViewLemmas.{over_found}

pub record Sweep (test : ℕ → ℕ → List Edge → Option ℕ) (b : List ℕ) (id at : ℕ) : Type 0 where
  pub rest : over first_form test id at (drop id (nodes_of b))
      ≡ in_nodes first_form test (nodes_of b)
  pub room : at + 13 * sizes (drop id (nodes_of b)) ≡ length b

pub there : (b : List ℕ) (count id : ℕ) → IsFramed b → count ≡ node_count b → id < count
    → id < length (nodes_of b)
there b count id framed n h = let p = (parts_framed b framed).count in omega (arith, p, n, h)

pub gone : (b : List ℕ) (count id : ℕ) → IsFramed b → count ≡ node_count b → count ≤ id
    → length (nodes_of b) ≤ id
gone b count id framed n h = let p = (parts_framed b framed).count in omega (arith, p, n, h)

pub sweep_begins : (test : ℕ → ℕ → List Edge → Option ℕ) (b : List ℕ) (count : ℕ) → IsFramed b
    → count ≡ node_count b → Sweep test b 0 (16 + 4 * count)
sweep_begins test b count framed n =
    let p = parts_framed b framed in
    let r = room_of b framed in
    let m : count ≡ length (nodes_of b) = n ∙ sym p.count in
    record {
      rest = ap (λ (k : ℕ). over first_form test 0 (16 + 4 * k) (nodes_of b)) m;
      room = omega (arith, r, n);
    }

pub sweep_found : (test : ℕ → ℕ → List Edge → Option ℕ) (b : List ℕ) (id at wide found : ℕ)
    (es : List Edge) → Sweep test b id at → id < length (nodes_of b) → wide ≡ 13 * length es
    → es ≡ get_or (nodes_of b) id [] → Some found ≡ test id at es
    → Some found ≡ in_nodes first_form test (nodes_of b)
sweep_found test b id at wide found es w h width is e =
    over_found _ _ _ found (sym (over_next test (nodes_of b) id at wide h
    (width ∙ ap (λ (x : List Edge). 13 * length x) is)) ∙ w.rest)
    (ap (test id at) (sym is) ∙ sym e)

pub sweep_next : (test : ℕ → ℕ → List Edge → Option ℕ) (b : List ℕ) (id at wide : ℕ)
    (es : List Edge) → Sweep test b id at → id < length (nodes_of b) → wide ≡ 13 * length es
    → es ≡ get_or (nodes_of b) id [] → None ≡ test id at es → Sweep test b (id + 1) (at + wide)
sweep_next test b id at wide es w h width is e =
    let k : wide ≡ 13 * length (get_or (nodes_of b) id []) =
    width ∙ ap (λ (x : List Edge). 13 * length x) is in
    let r = w.room in
    let s = sizes_next (nodes_of b) id h in
    record {
      rest = over_passed _ _ _ (sym (over_next test (nodes_of b) id at wide h k) ∙ w.rest)
          (ap (test id at) (sym is) ∙ sym e);
      room = omega (arith, r, s, k);
    }

pub sweep_ends : (test : ℕ → ℕ → List Edge → Option ℕ) (b : List ℕ) (id at : ℕ) → Sweep test b id at
    → length (nodes_of b) ≤ id → None ≡ in_nodes first_form test (nodes_of b)
sweep_ends test b id at w h = ap (over first_form test id at)
    (sym (drop_of_length-le (nodes_of b) h)) ∙ w.rest

-- a test that doesn't look at the offset
pub unplaced : (test : ℕ → List Edge → Option ℕ) (id a b : ℕ) (ns : List (List Edge))
    → over first_form (λ i at n. test i n) id a ns ≡ over first_form (λ i at n. test i n) id b ns
unplaced test id a b [] = refl
unplaced test id a b (n ∷ ns) =
    ap (or_first (test id n)) (unplaced test (id + 1) (a + 13 * length n) (b + 13 * length n) ns)

pub record Numbered (test : ℕ → List Edge → Option ℕ) (b : List ℕ) (id : ℕ) : Type 0 where
  pub rest : over first_form (λ i at n. test i n) id 0 (drop id (nodes_of b))
      ≡ in_nodes first_form (λ i at n. test i n) (nodes_of b)

pub numbered_begins : (test : ℕ → List Edge → Option ℕ) (b : List ℕ) → Numbered test b 0
numbered_begins test b = record
    { rest = unplaced test 0 0 (entry (length (nodes_of b))) (nodes_of b) }

numbered_step : (test : ℕ → List Edge → Option ℕ) (b : List ℕ) (id : ℕ) (es : List Edge)
    → Numbered test b id → id < length (nodes_of b) → es ≡ get_or (nodes_of b) id []
    → or_first (test id es) (over first_form (λ i at n. test i n) (id + 1) 0
    (drop (id + 1) (nodes_of b))) ≡ in_nodes first_form (λ i at n. test i n) (nodes_of b)
numbered_step test b id es w h is =
    let ns = nodes_of b in
    let k = 13 * length (get_or ns id []) in
    ap (λ (x : List Edge). or_first (test id x)
    (over first_form (λ i at n. test i n) (id + 1) 0 (drop (id + 1) ns))) is
    ∙ ap (or_first (test id (get_or ns id [])))
    (unplaced test (id + 1) 0 (0 + k) (drop (id + 1) ns))
    ∙ sym (over_next (λ i at n. test i n) ns id 0 k h refl) ∙ w.rest

pub numbered_found : (test : ℕ → List Edge → Option ℕ) (b : List ℕ) (id found : ℕ) (es : List Edge)
    → Numbered test b id → id < length (nodes_of b) → es ≡ get_or (nodes_of b) id []
    → test id es ≡ Some found → Some found ≡ in_nodes first_form (λ i at n. test i n) (nodes_of b)
numbered_found test b id found es w h is e =
    over_found _ _ _ found (numbered_step test b id es w h is) e

pub numbered_next : (test : ℕ → List Edge → Option ℕ) (b : List ℕ) (id : ℕ) (es : List Edge)
    → Numbered test b id → id < length (nodes_of b) → es ≡ get_or (nodes_of b) id []
    → test id es ≡ None → Numbered test b (id + 1)
numbered_next test b id es w h is e =
    record { rest = over_passed _ _ _ (numbered_step test b id es w h is) e }

pub numbered_ends : (test : ℕ → List Edge → Option ℕ) (b : List ℕ) (id : ℕ) → Numbered test b id
    → length (nodes_of b) ≤ id → None ≡ in_nodes first_form (λ i at n. test i n) (nodes_of b)
numbered_ends test b id w h = ap (over first_form (λ i at n. test i n) id 0)
    (sym (drop_of_length-le (nodes_of b) h)) ∙ w.rest

stand_is : (b : List ℕ) (count id : ℕ) (es : List Edge) (r : Bool) → IsFramed b
    → count ≡ node_count b → r ≡ (is_free es || (eqb id 0) || (eqb (id + 1) count))
    → free_broken (length (nodes_of b)) id es ≡ broken_if (not r) (entry id)
stand_is b count id es r framed n e =
    let p = parts_framed b framed in
    let m : length (nodes_of b) ≡ count = p.count ∙ sym n in
    ap (λ (k : ℕ). broken_if (not (is_free es || (eqb id 0) || (eqb (id + 1) k))) (entry id)) m
    ∙ ap (λ (x : Bool). broken_if (not x) (entry id)) (sym e)

pub stands_not : (b : List ℕ) (count id : ℕ) (es : List Edge) (r : Bool) → IsFramed b
    → count ≡ node_count b → r ≡ (is_free es || (eqb id 0) || (eqb (id + 1) count)) → r ≡ false
    → free_broken (length (nodes_of b)) id es ≡ Some (16 + 4 * id)
stands_not b count id es r framed n e f =
    stand_is b count id es r framed n e ∙ ap (λ (x : Bool). broken_if (not x) (entry id)) f

pub stands : (b : List ℕ) (count id : ℕ) (es : List Edge) (r : Bool) → IsFramed b
    → count ≡ node_count b → r ≡ (is_free es || (eqb id 0) || (eqb (id + 1) count)) → r ≡ true
    → free_broken (length (nodes_of b)) id es ≡ None
stands b count id es r framed n e f =
    stand_is b count id es r framed n e ∙ ap (λ (x : Bool). broken_if (not x) (entry id)) f
