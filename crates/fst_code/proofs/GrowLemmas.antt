-- A table that grows node by node.
use Rattle.std.proofs.Common.{◌≡◌, ◌<◌, ◌≤◌, ◌+◌, ◌*◌, ℕ, suc, Bool, true, false, ltb, max, List}
use Rattle.std.proofs.Common.{[], ◌∷◌, ◌++◌, drop, get_or, length, refl, sym, ap, ◌∙◌, arith}
use Rattle.std.proofs.Common.{Option, Some, None}
use Rattle.std.proofs.Math.Seq.{drop-cons}
use Rattle.std.proofs.Math.ListN.{drop_of_length-le}
use Rattle.std.proofs.lemmas.Bool.{lt-ltb, le-ltb}
use Rattle.std.proofs.lemmas.List.{length_push, get_or_push}
use Rattle.sg_base.specs.declared.node.Edge.{Edge}
use Rattle.fst_code.specs.Bytes.{nodes_of, entry}
use Rattle.fst_code.specs.Rules.{or_first, broken_if, over_most}
use Rattle.fst_code.specs.Tails.{table, greatest}
use Rattle.fst_code.proofs.ArcLemmas.{drop_arc}
use Rattle.fst_code.proofs.TableLemmas.{table_keeps, length-table}

max_assoc : (a b c : ℕ) → max (max a b) c ≡ max a (max b c)
max_assoc a b c = omega (arith)

pub greatest_next : (f : Edge → ℕ) (i most next : ℕ) (es : List Edge) (e : Edge) (whole : ℕ)
    → i < length es → e ≡ get_or es i e → next ≡ max most (f e)
    → max most (greatest f (drop i es)) ≡ whole → max next (greatest f (drop (i + 1) es)) ≡ whole
greatest_next f i most next es e whole h is n inv =
    ap (λ (k : ℕ). max k (greatest f (drop (i + 1) es))) n
    ∙ max_assoc most (f e) (greatest f (drop (i + 1) es))
    ∙ ap (λ (x : List Edge). max most (greatest f x)) (sym (drop_arc i es e h is)) ∙ inv

-- the entries so far
pub record Grown (step : List ℕ → List Edge → ℕ) (b : List ℕ) (id : ℕ) (known : List ℕ) : Type 0
  where
    pub full : length known ≡ id
    pub rest : table step known (drop id (nodes_of b)) ≡ table step [] (nodes_of b)

pub grown_begins : (step : List ℕ → List Edge → ℕ) (b : List ℕ) → Grown step b 0 []
grown_begins step b = record { full = refl; rest = refl }

next_node : (ns : List (List Edge)) (i : ℕ) → i < length ns
    → drop i ns ≡ get_or ns i [] ∷ drop (i + 1) ns
next_node ns i h =
    let s : suc i ≡ i + 1 = omega (arith) in
    drop-cons ns i [] h ∙ ap (λ (k : ℕ). get_or ns i [] ∷ drop k ns) s

pub grown_next : (step : List ℕ → List Edge → ℕ) (b : List ℕ) (id x : ℕ) (known : List ℕ)
    (es : List Edge) → Grown step b id known → id < length (nodes_of b)
    → es ≡ get_or (nodes_of b) id [] → x ≡ step known es → Grown step b (id + 1) (known ++ x ∷ [])
grown_next step b id x known es g h is e =
    let ns = nodes_of b in
    let f = g.full in
    let l = length_push known x in
    let y : x ≡ step known (get_or ns id []) = e ∙ ap (step known) is in
    record {
      full = omega (arith, f, l);
      rest = ap (λ (k : ℕ). table step (known ++ k ∷ []) (drop (id + 1) ns)) y
          ∙ ap (table step known) (sym (next_node ns id h)) ∙ g.rest;
    }

-- what stands there stays
pub grown_keeps : (step : List ℕ → List Edge → ℕ) (b : List ℕ) (id i : ℕ) (known : List ℕ)
    → Grown step b id known → i < id → get_or (table step [] (nodes_of b)) i 0 ≡ get_or known i 0
grown_keeps step b id i known g h =
    let f = g.full in
    ap (λ (t : List ℕ). get_or t i 0) (sym g.rest)
    ∙ table_keeps step known (drop id (nodes_of b)) i 0 (omega (arith, f, h))

pub grown_at : (step : List ℕ → List Edge → ℕ) (b : List ℕ) (id x : ℕ) (known : List ℕ)
    (es : List Edge) → Grown step b id known → id < length (nodes_of b)
    → es ≡ get_or (nodes_of b) id [] → x ≡ step known es
    → get_or (table step [] (nodes_of b)) id 0 ≡ x
grown_at step b id x known es g h is e =
    grown_keeps step b (id + 1) id (known ++ x ∷ []) (grown_next step b id x known es g h is e)
    (omega (arith)) ∙ get_or_push known x 0 id g.full

-- and none of them is over the most
pub record Tabled (step : List ℕ → List Edge → ℕ) (most : ℕ) (b : List ℕ) (id : ℕ)
    (known : List ℕ) : Type 0 where
  pub grown : Grown step b id known
  pub postorder : over_most most id (drop id (table step [] (nodes_of b)))
      ≡ over_most most 0 (table step [] (nodes_of b))

tabled_step : (step : List ℕ → List Edge → ℕ) (most : ℕ) (b : List ℕ) (id x : ℕ) (known : List ℕ)
    (es : List Edge) → Tabled step most b id known → id < length (nodes_of b)
    → es ≡ get_or (nodes_of b) id [] → x ≡ step known es
    → or_first (broken_if (ltb most x) (entry id))
    (over_most most (id + 1) (drop (id + 1) (table step [] (nodes_of b))))
    ≡ over_most most 0 (table step [] (nodes_of b))
tabled_step step most b id x known es t h is e =
    let all = table step [] (nodes_of b) in
    let l = length-table step [] (nodes_of b) in
    let s : suc id ≡ id + 1 = omega (arith) in
    let d : drop id all ≡ x ∷ drop (id + 1) all =
    drop-cons all id 0 (omega (arith, l, h))
    ∙ ap (λ (k : ℕ). k ∷ drop (suc id) all) (grown_at step b id x known es t.grown h is e)
    ∙ ap (λ (k : ℕ). x ∷ drop k all) s in
    sym (ap (over_most most id) d) ∙ t.postorder

broken : (c : Bool) (at : ℕ) (rest whole : Option ℕ) → or_first (broken_if c at) rest ≡ whole
    → c ≡ true → Some at ≡ whole
broken true at rest whole e t = e
broken false at rest whole e t = absurd cc

whole_yet : (c : Bool) (at : ℕ) (rest whole : Option ℕ) → or_first (broken_if c at) rest ≡ whole
    → c ≡ false → rest ≡ whole
whole_yet false at rest whole e t = e
whole_yet true at rest whole e t = absurd cc

pub tabled_found : (step : List ℕ → List Edge → ℕ) (most : ℕ) (b : List ℕ) (id x : ℕ)
    (known : List ℕ) (es : List Edge) → Tabled step most b id known → id < length (nodes_of b)
    → es ≡ get_or (nodes_of b) id [] → x ≡ step known es → most < x
    → Some (16 + 4 * id) ≡ over_most most 0 (table step [] (nodes_of b))
tabled_found step most b id x known es t h is e lt =
    broken (ltb most x) (entry id) _ _ (tabled_step step most b id x known es t h is e)
    (lt-ltb most x lt)

pub tabled_next : (step : List ℕ → List Edge → ℕ) (most : ℕ) (b : List ℕ) (id x : ℕ)
    (known : List ℕ) (es : List Edge) → Tabled step most b id known → id < length (nodes_of b)
    → es ≡ get_or (nodes_of b) id [] → x ≡ step known es → x ≤ most
    → Tabled step most b (id + 1) (known ++ x ∷ [])
tabled_next step most b id x known es t h is e le =
    record {
      grown = grown_next step b id x known es t.grown h is e;
      postorder = whole_yet (ltb most x) (entry id) _ _
          (tabled_step step most b id x known es t h is e) (le-ltb most x le);
    }

pub tabled_ends : (step : List ℕ → List Edge → ℕ) (most : ℕ) (b : List ℕ) (id : ℕ) (known : List ℕ)
    → Tabled step most b id known → length (nodes_of b) ≤ id
    → None ≡ over_most most 0 (table step [] (nodes_of b))
tabled_ends step most b id known t h =
    let l = length-table step [] (nodes_of b) in
    ap (over_most most id) (sym (drop_of_length-le (table step [] (nodes_of b))
    (omega (arith, l, h)))) ∙ t.postorder
