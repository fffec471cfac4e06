-- Valid bytes are the encoding of the nodes that are read from them.
use Rattle.std.proofs.Common.{◌≡◌, ◌<◌, ◌≤◌, ◌+◌, ◌-◌, ◌*◌, ℕ, zero, suc, Bool, true, false, not}
use Rattle.std.proofs.Common.{◌&&◌, cond, eqb, eqb-true, ltb, leb, List, [], ◌∷◌, ◌++◌, take, drop}
use Rattle.std.proofs.Common.{min, length, get_or, refl, sym, ap, subst, ◌∙◌, arith, take-add, ◌⊎◌}
use Rattle.std.proofs.Common.{inl, inr, None}
use Rattle.std.specs.Int.{w32, to_be_bytes}
use Rattle.std.specs.List.{AllByRecursion, flat_map, sum_by}
use Rattle.std.proofs.lemmas.Bool.{ltb-true, ltb-false, leb-true}
use Rattle.std.proofs.lemmas.List.{get_or-drop, drop-drop, length-drop, length-take-le, take_all}
use Rattle.std.proofs.lemmas.List.{drop_more}
use Rattle.std.proofs.lemmas.List.Sums.{sum_by-cons}
use Rattle.std.proofs.lemmas.Nat.{be_bytes_4}
use Rattle.sg_base.specs.declared.node.Edge.{Edge}
use Rattle.fst_code.specs.Bytes.{first_form, number_at, arc_at, arcs_at, node_count, arc_count}
use Rattle.fst_code.specs.Bytes.{path_count, entry, numbers_at, entries, nodes_from, nodes_of}
use Rattle.fst_code.specs.Bytes.{arc_bytes, entry_bytes, encoding}
use Rattle.fst_code.specs.Rules.{broken_if, ruled, rule_2, rule_3, rule_4, whole, common}
use Rattle.fst_code.specs.Rules.{most_common, ends_broken, entries_broken, named_broken, IsValid}
use Rattle.fst_code.specs.Rules.{firsts, nodes_broken}
use Rattle.fst_code.specs.Shapes.{AreShaped, IsBytes}
use Rattle.fst_code.specs.ValidNodes.{AreValid}
use Rattle.fst_code.proofs.ReadLemmas.{none_parts, ruled_none, unbroken, unbroken_not, valid_nodes}

pub bytes_take : (n : ℕ) (xs : List ℕ) → IsBytes xs → IsBytes (take n xs)
bytes_take zero xs fits i = omega (arith)
bytes_take (suc n) [] fits i = omega (arith)
bytes_take (suc n) (x ∷ xs) fits zero = fits 0
bytes_take (suc n) (x ∷ xs) fits (suc i) = bytes_take n xs (λ k. fits (suc k)) i

pub bytes_drop : (n : ℕ) (xs : List ℕ) → IsBytes xs → IsBytes (drop n xs)
bytes_drop n xs fits i = rw (get_or-drop n xs i 0) (fits (n + i))

number_bytes : (at : ℕ) (bytes : List ℕ) → IsBytes bytes → at + 4 ≤ length bytes
    → to_be_bytes w32 (number_at w32 at bytes) ≡ take 4 (drop at bytes)
number_bytes at bytes fits h =
    let part = drop at bytes in
    let long = length-drop at bytes in
    be_bytes_4 (take 4 part) (number_at w32 at bytes)
    (length-take-le 4 part (omega (arith, long, h)))
    (bytes_take 4 part (bytes_drop at bytes fits)) refl

three_parts : (ys : List ℕ) → (take 4 ys ++ take 4 (drop 4 ys)) ++ take 4 (drop 8 ys) ≡ take 12 ys
three_parts ys =
    let a = take-add 8 4 ys in
    let b = take-add 4 4 ys in
    sym (a ∙ ap (λ x. x ++ take 4 (drop 8 ys)) b)

read_arc : (at : ℕ) (bytes : List ℕ) → IsBytes bytes → at + 13 ≤ length bytes
    → arc_bytes first_form (arc_at first_form at bytes) ≡ take 13 (drop at bytes)
read_arc at bytes fits h =
    let a = number_bytes (at + 1) bytes fits (omega (arith, h)) in
    let b = number_bytes (at + 5) bytes fits (omega (arith, h)) in
    let c = number_bytes (at + 9) bytes fits (omega (arith, h)) in
    let first = drop_more bytes at 0 (omega (arith, h)) in
    let x = get_or bytes at 0 in
    let ys = drop (at + 1) bytes in
    let b1 : take 4 (drop (at + 5) bytes) ≡ take 4 (drop 4 ys) =
    ap (take 4) (ap (λ k. drop k bytes) (omega (arith)) ∙ sym (drop-drop 4 (at + 1) bytes)) in
    let c1 : take 4 (drop (at + 9) bytes) ≡ take 4 (drop 8 ys) =
    ap (take 4) (ap (λ k. drop k bytes) (omega (arith)) ∙ sym (drop-drop 8 (at + 1) bytes)) in
    ap (λ (p : List ℕ). (x ∷ p ++ to_be_bytes w32 (number_at w32 (at + 5) bytes))
    ++ to_be_bytes w32 (number_at w32 (at + 9) bytes)) a
    ∙ ap (λ (p : List ℕ). (x ∷ take 4 ys ++ p) ++ to_be_bytes w32 (number_at w32 (at + 9) bytes))
    (b ∙ b1)
    ∙ ap (λ (p : List ℕ). (x ∷ take 4 ys ++ take 4 (drop 4 ys)) ++ p) (c ∙ c1)
    ∙ ap (λ (p : List ℕ). x ∷ p) (three_parts ys)
    ∙ ap (take 13) (sym first)

-- a part and the part behind it
two_parts : (n m at : ℕ) (bytes : List ℕ)
    → take n (drop at bytes) ++ take m (drop (at + n) bytes) ≡ take (n + m) (drop at bytes)
two_parts n m at bytes =
    ap (λ (x : List ℕ). take n (drop at bytes) ++ take m x)
    (ap (λ (k : ℕ). drop k bytes) (omega arith) ∙ sym (drop-drop n at bytes))
    ∙ sym (take-add n m (drop at bytes))

read_arcs : (n at : ℕ) (bytes : List ℕ) → IsBytes bytes → at + 13 * n ≤ length bytes
    → flat_map (arc_bytes first_form) (arcs_at first_form n at bytes)
    ≡ take (13 * n) (drop at bytes)
read_arcs zero at bytes fits h = refl
read_arcs (suc n) at bytes fits h =
    let k : 13 * suc n ≡ 13 + 13 * n = omega (arith) in
    ap (λ (x : List ℕ). x ++ flat_map (arc_bytes first_form) (arcs_at first_form n (at + 13) bytes))
    (read_arc at bytes fits (omega (arith, h, k)))
    ∙ ap (λ (x : List ℕ). take 13 (drop at bytes) ++ x)
    (read_arcs n (at + 13) bytes fits (omega (arith, h, k)))
    ∙ two_parts 13 (13 * n) at bytes
    ∙ ap (λ (m : ℕ). take m (drop at bytes)) (sym k)

read_numbers : (n at : ℕ) (bytes : List ℕ) → IsBytes bytes → at + 4 * n ≤ length bytes
    → flat_map (to_be_bytes w32) (numbers_at n at bytes) ≡ take (4 * n) (drop at bytes)
read_numbers zero at bytes fits h = refl
read_numbers (suc n) at bytes fits h =
    let k : 4 * suc n ≡ 4 + 4 * n = omega (arith) in
    ap (λ (x : List ℕ). x ++ flat_map (to_be_bytes w32) (numbers_at n (at + 4) bytes))
    (number_bytes at bytes fits (omega (arith, h, k)))
    ∙ ap (λ (x : List ℕ). take 4 (drop at bytes) ++ x)
    (read_numbers n (at + 4) bytes fits (omega (arith, h, k)))
    ∙ two_parts 4 (4 * n) at bytes
    ∙ ap (λ (m : ℕ). take m (drop at bytes)) (sym k)

pub length-numbers : (n at : ℕ) (bytes : List ℕ) → length (numbers_at n at bytes) ≡ n
length-numbers zero at bytes = refl
length-numbers (suc n) at bytes = ap suc (length-numbers n (at + 4) bytes)

pub length-arcs_at : (n at : ℕ) (bytes : List ℕ) → length (arcs_at first_form n at bytes) ≡ n
length-arcs_at zero at bytes = refl
length-arcs_at (suc n) at bytes = ap suc (length-arcs_at n (at + 13) bytes)

-- entries that don't fall, the last all
abbrev pub Ends : ℕ → List ℕ → ℕ → Type 0
Ends from [] all = from ≡ all
Ends from (e ∷ es) all = (from ≤ e) × Ends e es all

pub ends_le : (from : ℕ) (es : List ℕ) (all : ℕ) → Ends from es all → from ≤ all
ends_le from [] all h = omega (arith, h)
ends_le from (e ∷ es) all h = let k = ends_le e es all h.1 in omega (arith, h.0, k)

abbrev pub sizes : List (List Edge) → ℕ
sizes = sum_by (λ (n : List Edge). length n)

pub length-nodes : (from at : ℕ) (es bytes : List ℕ)
    → length (nodes_from first_form from at es bytes) ≡ length es
length-nodes from at [] bytes = refl
length-nodes from at (e ∷ es) bytes = ap suc (length-nodes e (at + 13 * (e - from)) es bytes)

pub sizes_of : (from at : ℕ) (es bytes : List ℕ) (all : ℕ) → Ends from es all
    → from + sizes (nodes_from first_form from at es bytes) ≡ all
sizes_of from at [] bytes all h = omega (arith, h)
sizes_of from at (e ∷ es) bytes all h =
    let s : sizes (arcs_at first_form (e - from) at bytes ∷ nodes_from first_form e
    (at + 13 * (e - from)) es bytes)
    ≡ length (arcs_at first_form (e - from) at bytes) + sizes
    (nodes_from first_form e (at + 13 * (e - from)) es bytes) =
    sum_by-cons (λ (n : List Edge). length n) (arcs_at first_form (e - from) at bytes)
    (nodes_from first_form e (at + 13 * (e - from)) es bytes) in
    let l = length-arcs_at (e - from) at bytes in
    let ih = sizes_of e (at + 13 * (e - from)) es bytes all h.1 in
    omega (arith, s, l, ih, h.0)

entries_encoded : (from at : ℕ) (es bytes : List ℕ) (all : ℕ) → Ends from es all
    → entry_bytes from (nodes_from first_form from at es bytes) ≡ flat_map (to_be_bytes w32) es
entries_encoded from at [] bytes all h = refl
entries_encoded from at (e ∷ es) bytes all h =
    let l = length-arcs_at (e - from) at bytes in
    let k : from + length (arcs_at first_form (e - from) at bytes) ≡ e = omega (arith, l, h.0) in
    ap (λ (m : ℕ). to_be_bytes w32 m
    ++ entry_bytes m (nodes_from first_form e (at + 13 * (e - from)) es bytes)) k
    ∙ ap (λ (x : List ℕ). to_be_bytes w32 e ++ x)
    (entries_encoded e (at + 13 * (e - from)) es bytes all h.1)

arcs_encoded : (from at : ℕ) (es bytes : List ℕ) (all : ℕ) → IsBytes bytes → Ends from es all
    → at + 13 * (all - from) ≤ length bytes
    → flat_map (flat_map (arc_bytes first_form)) (nodes_from first_form from at es bytes)
    ≡ take (13 * (all - from)) (drop at bytes)
arcs_encoded from at [] bytes all fits h long = let z : 0 ≡ 13 * (all - from) =
    omega (arith, h) in ap (λ (k : ℕ). take k (drop at bytes)) z
arcs_encoded from at (e ∷ es) bytes all fits h long =
    let le = ends_le e es all h.1 in
    let k : 13 * (all - from) ≡ 13 * (e - from) + 13 * (all - e) = omega (arith, le, h.0) in
    ap (λ (x : List ℕ). x ++ flat_map (flat_map (arc_bytes first_form))
    (nodes_from first_form e (at + 13 * (e - from)) es bytes))
    (read_arcs (e - from) at bytes fits (omega (arith, k, long)))
    ∙ ap (λ (x : List ℕ). take (13 * (e - from)) (drop at bytes) ++ x)
    (arcs_encoded e (at + 13 * (e - from)) es bytes all fits h.1 (omega (arith, k, long)))
    ∙ two_parts (13 * (e - from)) (13 * (all - e)) at bytes
    ∙ ap (λ (m : ℕ). take m (drop at bytes)) (sym k)

-- the name
common_by : (b : Bool) (n k : ℕ) → suc n ≤ cond b (1 + k) 0 → (b ≡ true) × (n ≤ k)
common_by true n k h = (refl, omega (arith, h))
common_by false n k h = absurd (omega (arith, h))

named : (name bytes : List ℕ) → length name ≤ common name bytes → take (length name) bytes ≡ name
named [] bytes h = refl
named (x ∷ xs) [] h = absurd (omega (arith, h))
named (x ∷ xs) (y ∷ ys) h =
    let p = common_by (eqb x y) (length xs) (common xs ys) h in
    let e : x ≡ y = eqb-true x y p.0 in
    ap (λ (z : ℕ). z ∷ take (length xs) ys) (sym e) ∙ ap (λ (z : List ℕ). x ∷ z) (named xs ys p.1)

-- what rule 4 says
and_parts : (a b : Bool) → (a && b) ≡ true → (a ≡ true) × (b ≡ true)
and_parts true b e = (refl, e)
and_parts false b e = absurd cc

abbrev pub Rise : ℕ → List ℕ → ℕ → Type 0
Rise from [] all = from ≡ all
Rise from (e ∷ es) all = (from < e) × (e ≤ from + 256) × Rise e es all

rise_ends : (from : ℕ) (es : List ℕ) (all : ℕ) → Rise from es all → Ends from es all
rise_ends from [] all h = h
rise_ends from (e ∷ es) all h = (let k = h.0 in omega (arith, k), rise_ends e es all h.2)

rise_of : (all at from e : ℕ) (es : List ℕ) → ends_broken all at from (e ∷ es) ≡ None
    → Rise from (e ∷ es) all
rise_of all at from e [] h =
    let t = unbroken_not (ltb from e && leb e (from + 256) && eqb e all) at h in
    let p = and_parts (ltb from e && leb e (from + 256)) (eqb e all) t in
    let q = and_parts (ltb from e) (leb e (from + 256)) p.0 in
    (ltb-true from e q.0, leb-true e (from + 256) q.1, eqb-true e all p.1)
rise_of all at from e (d ∷ es) h =
    let s = none_parts (broken_if (not (ltb from e && leb e (from + 256))) at)
    (ends_broken all (at + 4) e (d ∷ es)) h in
    let q = and_parts (ltb from e) (leb e (from + 256))
    (unbroken_not (ltb from e && leb e (from + 256)) at s.0) in
    (ltb-true from e q.0, leb-true e (from + 256) q.1, rise_of all (at + 4) e d es s.1)

-- none, or an entry 0 and then rising ones
abbrev pub Entries : List ℕ → ℕ → ℕ → Type 0
Entries [] all paths = (all ≡ 0) × (paths ≡ 0)
Entries (e ∷ []) all paths = ⊥
Entries (e ∷ d ∷ es) all paths = (e ≡ 0) × Rise 0 (d ∷ es) all

pub entries_of : (all paths : ℕ) (es : List ℕ) → entries_broken all paths es ≡ None
    → Entries es all paths
entries_of all paths [] h =
    let p = none_parts (broken_if (not (eqb all 0)) 8) (broken_if (not (eqb paths 0)) 12) h in (
      eqb-true all 0 (unbroken_not (eqb all 0) 8 p.0),
      eqb-true paths 0 (unbroken_not (eqb paths 0) 12 p.1),
    )
entries_of all paths (e ∷ []) h = absurd cc
entries_of all paths (e ∷ d ∷ es) h =
    let p = none_parts (broken_if (not (eqb e 0)) 16) (ends_broken all 20 0 (d ∷ es)) h in
    (eqb-true e 0 (unbroken_not (eqb e 0) 16 p.0), rise_of all 20 0 d es p.1)

pub entries_ends : (es : List ℕ) (all paths : ℕ) → Entries es all paths → Ends 0 es all
entries_ends [] all paths h = sym h.0
entries_ends (e ∷ []) all paths h = absurd h
entries_ends (e ∷ d ∷ es) all paths h = (
  omega (arith, h.0),
  subst (λ (k : ℕ). Ends k (d ∷ es) all) (sym h.0)
      (rise_ends 0 (d ∷ es) all h.1),
)

-- the nodes' shape
labels_of : (n at : ℕ) (bytes : List ℕ) → IsBytes bytes
    → AllByRecursion (λ (e : Edge). e.label < 256) (arcs_at first_form n at bytes)
labels_of zero at bytes fits = tt
labels_of (suc n) at bytes fits = (fits at, labels_of n (at + 13) bytes fits)

labels_at : (from at : ℕ) (es bytes : List ℕ) → IsBytes bytes → (id : ℕ)
    → AllByRecursion (λ (e : Edge). e.label < 256)
    (get_or (nodes_from first_form from at es bytes) id [])
labels_at from at [] bytes fits id = tt
labels_at from at (e ∷ es) bytes fits zero = labels_of (e - from) at bytes fits
labels_at from at (e ∷ es) bytes fits (suc id) = labels_at e (at + 13 * (e - from)) es bytes fits id

some_at : (from at : ℕ) (es bytes : List ℕ) (all : ℕ) → Rise from es all → (id : ℕ) → id < length es
    → 0 < length (get_or (nodes_from first_form from at es bytes) id [])
some_at from at [] bytes all h id l = absurd (omega (arith, l))
some_at from at (e ∷ es) bytes all h zero l = let k = length-arcs_at (e - from) at bytes in let p =
    h.0 in omega (arith, k, p)
some_at from at (e ∷ es) bytes all h (suc id) l =
    some_at e (at + 13 * (e - from)) es bytes all h.2 id (omega (arith, l))

some_later : (e : ℕ) (es : List ℕ) (at : ℕ) (bytes : List ℕ) (all : ℕ) → Rise e es all → (id : ℕ)
    → 0 < id → id < length (nodes_from first_form 0 at (e ∷ es) bytes)
    → 0 < length (get_or (nodes_from first_form 0 at (e ∷ es) bytes) id [])
some_later e es at bytes all rise zero p h = absurd (omega (arith, p))
some_later e es at bytes all rise (suc id) p h = let l =
    length-nodes e (at + 13 * (e - 0)) es bytes in
    some_at e (at + 13 * (e - 0)) es bytes all rise id (omega (arith, l, h))

shape_of : (at : ℕ) (es bytes : List ℕ) (all paths : ℕ) → IsBytes bytes → Entries es all paths
    → ((nodes_from first_form 0 at es bytes ≡ []) × (paths ≡ 0))
    ⊎ AreShaped (nodes_from first_form 0 at es bytes)
shape_of at [] bytes all paths fits h = inl (refl, h.1)
shape_of at (e ∷ []) bytes all paths fits h = absurd h
shape_of at (e ∷ d ∷ es) bytes all paths fits h =
    let z : e - 0 ≡ 0 = omega (arith, h.0) in
    let rise : Rise e (d ∷ es) all = subst (λ (k : ℕ). Rise k (d ∷ es) all) (sym h.0) h.1 in
    inr (record {
      two = omega (arith);
      end_is = ap (λ (k : ℕ). arcs_at first_form k at bytes) z;
      some = some_later e (d ∷ es) at bytes all rise;
      labels = labels_at 0 at (e ∷ d ∷ es) bytes fits;
    })

-- the header's sixteen bytes
header_is : (bytes : List ℕ) → IsBytes bytes → 16 ≤ length bytes → take 4 bytes ≡ first_form.name
    → ((first_form.name ++ to_be_bytes w32 (node_count bytes)) ++ to_be_bytes w32 (arc_count bytes))
    ++ to_be_bytes w32 (path_count bytes) ≡ take 16 bytes
header_is bytes fits long name =
    let n = number_bytes 4 bytes fits (omega (arith, long)) in
    let a = number_bytes 8 bytes fits (omega (arith, long)) in
    let p = number_bytes 12 bytes fits (omega (arith, long)) in
    let x4 = take-add 4 4 bytes in
    let x8 = take-add 8 4 bytes in
    let x12 = take-add 12 4 bytes in
    ap (λ (x : List ℕ). ((x ++ to_be_bytes w32 (node_count bytes))
    ++ to_be_bytes w32 (arc_count bytes)) ++ to_be_bytes w32 (path_count bytes))
    (sym name)
    ∙ ap (λ (x : List ℕ). ((take 4 bytes ++ x) ++ to_be_bytes w32 (arc_count bytes))
    ++ to_be_bytes w32 (path_count bytes)) n
    ∙ ap (λ (x : List ℕ). (x ++ to_be_bytes w32 (arc_count bytes))
    ++ to_be_bytes w32 (path_count bytes)) (sym x4)
    ∙ ap (λ (x : List ℕ). (take 8 bytes ++ x) ++ to_be_bytes w32 (path_count bytes)) a
    ∙ ap (λ (x : List ℕ). x ++ to_be_bytes w32 (path_count bytes)) (sym x8)
    ∙ ap (λ (x : List ℕ). take 12 bytes ++ x) p
    ∙ sym x12

none_or_valid : (paths : ℕ) (ns : List (List Edge))
    → firsts (nodes_broken first_form paths ns) ≡ None → ((ns ≡ []) × (paths ≡ 0)) ⊎ AreShaped ns
    → ((ns ≡ []) × (paths ≡ 0)) ⊎ AreValid paths ns
none_or_valid paths ns rules (inl h) = inl h
none_or_valid paths ns rules (inr h) = inr (valid_nodes paths ns h rules)

pub valid_bytes : (bytes : List ℕ) → IsBytes bytes → IsValid bytes
    → (bytes ≡ encoding first_form (path_count bytes) (nodes_of bytes))
    × (((nodes_of bytes ≡ []) × (path_count bytes ≡ 0))
    ⊎ AreValid (path_count bytes) (nodes_of bytes))
valid_bytes bytes fits valid =
    let s1 = none_parts (ruled 1 (broken_if (ltb (length bytes) 16) (length bytes))) _ valid in
    let s2 = none_parts (ruled 2 (rule_2 (first_form ∷ []) bytes)) (named_broken first_form bytes)
    s1.1 in
    let s3 = none_parts (ruled 3 (rule_3 first_form bytes)) _ s2.1 in
    let s4 = none_parts (ruled 4 (rule_4 bytes)) _ s3.1 in
    let long : 16 ≤ length bytes =
    ltb-false (length bytes) 16 (unbroken (ltb (length bytes) 16) (length bytes)
    (ruled_none 1 _ s1.0)) in
    let c = ltb-false (most_common (first_form ∷ []) bytes) 4
    (unbroken (ltb (most_common (first_form ∷ []) bytes) 4)
    (most_common (first_form ∷ []) bytes) (ruled_none 2 _ s2.0)) in
    let name : take 4 bytes ≡ first_form.name = named first_form.name bytes (omega (arith, c)) in
    let whole_is : length bytes ≡ whole first_form bytes =
    eqb-true (length bytes) (whole first_form bytes)
    (unbroken_not (eqb (length bytes) (whole first_form bytes))
    (min (length bytes) (whole first_form bytes)) (ruled_none 3 _ s3.0)) in
    let N = node_count bytes in
    let A = arc_count bytes in
    let es = entries bytes in
    let ns = nodes_of bytes in
    let entry_s = entries_of A (path_count bytes) es (ruled_none 4 _ s4.0) in
    let ends = entries_ends es A (path_count bytes) entry_s in
    let count : length ns ≡ N = length-nodes 0 (entry N) es bytes ∙ length-numbers N 16 bytes in
    let total : 0 + sizes ns ≡ A = sizes_of 0 (entry N) es bytes A ends in
    let total2 : sizes ns ≡ A = omega (arith, total) in
    let head = header_is bytes fits long name in
    let ent : entry_bytes 0 ns ≡ take (4 * N) (drop 16 bytes) =
    entries_encoded 0 (entry N) es bytes A ends
    ∙ read_numbers N 16 bytes fits (omega (arith, whole_is)) in
    let arcs : flat_map (flat_map (arc_bytes first_form)) ns
    ≡ take (13 * (A - 0)) (drop (16 + 4 * N) bytes) =
    arcs_encoded 0 (entry N) es bytes A fits ends (omega (arith, whole_is)) in
    let front : take 16 bytes ++ take (4 * N) (drop 16 bytes) ≡ take (16 + 4 * N) bytes =
    sym (take-add 16 (4 * N) bytes) in
    let all : take (16 + 4 * N) bytes ++ take (13 * (A - 0)) (drop (16 + 4 * N) bytes) ≡ bytes =
    sym (take-add (16 + 4 * N) (13 * (A - 0)) bytes)
    ∙ take_all (16 + 4 * N + 13 * (A - 0)) bytes (omega (arith, whole_is)) in
    let mapped : encoding first_form (path_count bytes) ns ≡ bytes =
    ap (λ (k : ℕ). ((((first_form.name ++ to_be_bytes w32 k) ++ to_be_bytes w32 (sizes ns))
    ++ to_be_bytes w32 (path_count bytes)) ++ entry_bytes 0 ns)
    ++ flat_map (flat_map (arc_bytes first_form)) ns) count
    ∙ ap (λ (k : ℕ). ((((first_form.name ++ to_be_bytes w32 N) ++ to_be_bytes w32 k)
    ++ to_be_bytes w32 (path_count bytes)) ++ entry_bytes 0 ns)
    ++ flat_map (flat_map (arc_bytes first_form)) ns) total2
    ∙ ap (λ (x : List ℕ). (x ++ entry_bytes 0 ns) ++ flat_map (flat_map (arc_bytes first_form)) ns)
    head
    ∙ ap (λ (x : List ℕ). (take 16 bytes ++ x) ++ flat_map (flat_map (arc_bytes first_form)) ns) ent
    ∙ ap (λ (x : List ℕ). x ++ flat_map (flat_map (arc_bytes first_form)) ns) front
    ∙ ap (λ (x : List ℕ). take (16 + 4 * N) bytes ++ x) arcs
    ∙ all in (
      sym mapped,
      none_or_valid (path_count bytes) ns s4.1
          (shape_of (entry N) es bytes A (path_count bytes) fits entry_s),
    )
