-- A node's arcs in valid bytes.
use Rattle.std.proofs.Common.{◌≡◌, ◌<◌, ◌≤◌, ◌+◌, ◌-◌, ◌*◌, ◌/◌, ℕ, zero, suc, List, [], ◌∷◌, take}
use Rattle.std.proofs.Common.{drop, min, length, get_or, refl, sym, ap, ◌∙◌, arith, Option, None}
use Rattle.std.proofs.Common.{Some, eqb, eqb-true, ltb}
use Rattle.std.specs.Int.{w32, from_be_bytes}
use Rattle.std.proofs.lemmas.Bool.{ltb-false}
use Rattle.std.proofs.lemmas.List.{drop-drop, drop-take, get_or-drop, length-take-le, length-drop}
use Rattle.sg_base.specs.declared.node.Edge.{Edge}
use Rattle.fst_code.specs.Bytes.{arcs_before_node, first_form, number_at, arc_at, arcs_at}
use Rattle.fst_code.specs.Bytes.{node_count, arc_count, path_count, entry, numbers_at, entries}
use Rattle.fst_code.specs.Bytes.{nodes_from, nodes_of}
use Rattle.fst_code.specs.Rules.{or_first, broken_if, ruled, rule_2, rule_3, rule_4, whole}
use Rattle.fst_code.specs.Rules.{named_broken, IsValid, IsFramed, over}
use Rattle.fst_code.proofs.ReadLemmas.{none_parts, ruled_none, unbroken, unbroken_not}
use Rattle.std.proofs.Math.Seq.{drop-cons}
use Rattle.std.proofs.lemmas.List.Sums.{sum_by-cons}
use Rattle.fst_code.proofs.BytesLemmas.{sizes, sizes_of, Ends, ends_le, entries_of, entries_ends}
use Rattle.fst_code.proofs.BytesLemmas.{length-numbers, length-nodes, length-arcs_at}

pub get_or-arcs_at : (n at : ℕ) (bytes : List ℕ) (i : ℕ) (d : Edge) → i < n
    → get_or (arcs_at first_form n at bytes) i d ≡ arc_at first_form (at + 13 * i) bytes
get_or-arcs_at zero at bytes i d h = absurd (omega (arith, h))
get_or-arcs_at (suc n) at bytes zero d h = ap (λ k. arc_at first_form k bytes) (omega (arith))
get_or-arcs_at (suc n) at bytes (suc i) d h =
    let z : at + 13 + 13 * i ≡ at + 13 * suc i = omega (arith) in
    get_or-arcs_at n (at + 13) bytes i d (omega (arith, h)) ∙ ap (λ k. arc_at first_form k bytes) z

take_take : (n m : ℕ) (xs : List ℕ) → n ≤ m → take n (take m xs) ≡ take n xs
take_take zero m xs h = refl
take_take (suc n) zero xs h = absurd (omega (arith, h))
take_take (suc n) (suc m) [] h = refl
take_take (suc n) (suc m) (x ∷ xs) h =
    ap (λ (v : List ℕ). x ∷ v) (take_take n m xs (omega (arith, h)))

get_take : (n m : ℕ) (xs : List ℕ) → n < m → get_or (take m xs) n 0 ≡ get_or xs n 0
get_take n zero xs h = absurd (omega (arith, h))
get_take n (suc m) [] h = refl
get_take zero (suc m) (x ∷ xs) h = refl
get_take (suc n) (suc m) (x ∷ xs) h = get_take n m xs (omega (arith, h))

-- what stands in a part stands in the whole
number_part : (k from m : ℕ) (bytes : List ℕ) → k + 4 ≤ m
    → number_at w32 k (take m (drop from bytes)) ≡ number_at w32 (from + k) bytes
number_part k from m bytes h =
    let rest : m ≡ k + (m - k) = omega (arith, h) in
    let z : from + k ≡ from + k = refl in
    let a : drop k (take m (drop from bytes)) ≡ take (m - k) (drop k (drop from bytes)) =
    ap (λ (j : ℕ). drop k (take j (drop from bytes))) rest
    ∙ drop-take k (m - k) (drop from bytes) in
    let b : drop k (drop from bytes) ≡ drop (from + k) bytes = drop-drop k from bytes in
    ap (λ (x : List ℕ). from_be_bytes w32 (take 4 x)) (a ∙ ap (take (m - k)) b)
    ∙ ap (from_be_bytes w32) (take_take 4 (m - k) (drop (from + k) bytes) (omega (arith, h)))

arc_part : (k from m : ℕ) (bytes : List ℕ) → k + 13 ≤ m
    → arc_at first_form k (take m (drop from bytes)) ≡ arc_at first_form (from + k) bytes
arc_part k from m bytes h =
    let label : get_or (take m (drop from bytes)) k 0 ≡ get_or bytes (from + k) 0 =
    get_take k m (drop from bytes) (omega (arith, h)) ∙ get_or-drop from bytes k 0 in
    let x1 : from + (k + 1) ≡ from + k + 1 = omega (arith) in
    let x5 : from + (k + 5) ≡ from + k + 5 = omega (arith) in
    let x9 : from + (k + 9) ≡ from + k + 9 = omega (arith) in
    rw (
      label,
      number_part (k + 1) from m bytes (omega (arith, h)),
      number_part (k + 5) from m bytes (omega (arith, h)),
      number_part (k + 9) from m bytes (omega (arith, h)),
      x1,
      x5,
      x9,
    ) refl

pub arcs_part : (n k from m : ℕ) (bytes : List ℕ) → k + 13 * n ≤ m
    → arcs_at first_form n k (take m (drop from bytes)) ≡ arcs_at first_form n (from + k) bytes
arcs_part zero k from m bytes h = refl
arcs_part (suc n) k from m bytes h =
    let z : from + (k + 13) ≡ from + k + 13 = omega (arith) in
    ap (λ (e : Edge). e ∷ arcs_at first_form n (k + 13) (take m (drop from bytes)))
    (arc_part k from m bytes (omega (arith, h)))
    ∙ ap (λ (es : List Edge). arc_at first_form (from + k) bytes ∷ es)
    (arcs_part n (k + 13) from m bytes (omega (arith, h))
    ∙ ap (λ (j : ℕ). arcs_at first_form n j bytes) z)

-- the end of the node before
abbrev pub start_of : ℕ → List ℕ → ℕ → ℕ
start_of from es zero = from
start_of from es (suc id) = get_or es id 0

ends_at : (from : ℕ) (es : List ℕ) (all id : ℕ) → Ends from es all → id < length es
    → from ≤ get_or es id 0
ends_at from [] all id h l = absurd (omega (arith, l))
ends_at from (e ∷ es) all zero h l = h.0
ends_at from (e ∷ es) all (suc id) h l = let k =
    ends_at e es all id h.1 (omega (arith, l)) in omega (arith, k, h.0)

upper : (from : ℕ) (es : List ℕ) (all id : ℕ) → Ends from es all → id < length es
    → get_or es id 0 ≤ all
upper from [] all id h l = absurd (omega (arith, l))
upper from (e ∷ es) all zero h l = ends_le e es all h.1
upper from (e ∷ es) all (suc id) h l = upper e es all id h.1 (omega (arith, l))

rises_at : (from : ℕ) (es : List ℕ) (all id : ℕ) → Ends from es all → id < length es
    → start_of from es id ≤ get_or es id 0
rises_at from [] all id h l = absurd (omega (arith, l))
rises_at from (e ∷ es) all zero h l = h.0
rises_at from (e ∷ es) all (suc zero) h l = rises_at e es all zero h.1 (omega (arith, l))
rises_at from (e ∷ es) all (suc (suc id)) h l = rises_at e es all (suc id) h.1 (omega (arith, l))

pub node_at : (from at : ℕ) (es bytes : List ℕ) (all id : ℕ) → Ends from es all → id < length es
    → get_or (nodes_from first_form from at es bytes) id []
    ≡ arcs_at first_form (get_or es id 0 - start_of from es id)
    (at + 13 * (start_of from es id - from)) bytes
node_at from at [] bytes all id h l = absurd (omega (arith, l))
node_at from at (e ∷ es) bytes all zero h l = let z : at ≡ at + 13 * (from - from) =
    omega (arith) in ap (λ (k : ℕ). arcs_at first_form (e - from) k bytes) z
node_at from at (e ∷ es) bytes all (suc zero) h l =
    let z : at + 13 * (e - from) + 13 * (e - e) ≡ at + 13 * (e - from) = omega (arith) in
    node_at e (at + 13 * (e - from)) es bytes all zero h.1 (omega (arith, l))
    ∙ ap (λ (k : ℕ). arcs_at first_form (get_or es 0 0 - e) k bytes) z
node_at from at (e ∷ es) bytes all (suc (suc id)) h l =
    let rise = ends_at e es all id h.1 (omega (arith, l)) in
    let z : at + 13 * (e - from) + 13 * (get_or es id 0 - e) ≡ at + 13 * (get_or es id 0 - from) =
    omega (arith, h.0, rise) in
    node_at e (at + 13 * (e - from)) es bytes all (suc id) h.1 (omega (arith, l))
    ∙ ap (λ (k : ℕ). arcs_at first_form (get_or es (suc id) 0 - get_or es id 0) k bytes) z

pub get_or-numbers : (n at : ℕ) (bytes : List ℕ) (i : ℕ) → i < n
    → get_or (numbers_at n at bytes) i 0 ≡ number_at w32 (at + 4 * i) bytes
get_or-numbers zero at bytes i h = absurd (omega (arith, h))
get_or-numbers (suc n) at bytes zero h = ap (λ k. number_at w32 k bytes) (omega (arith))
get_or-numbers (suc n) at bytes (suc i) h =
    let z : at + 4 + 4 * i ≡ at + 4 * suc i = omega (arith) in
    get_or-numbers n (at + 4) bytes i (omega (arith, h)) ∙ ap (λ k. number_at w32 k bytes) z

pub record Parts (bytes : List ℕ) : Type 0 where
  pub long : 16 ≤ length bytes
  pub whole_is : length bytes ≡ 16 + 4 * node_count bytes + 13 * arc_count bytes
  pub ends : Ends 0 (entries bytes) (arc_count bytes)
  pub count : length (nodes_of bytes) ≡ node_count bytes

pub parts_framed : (bytes : List ℕ) → IsFramed bytes → Parts bytes
parts_framed bytes framed =
    record {
      long = ltb-false (length bytes) 16 (unbroken (ltb (length bytes) 16) (length bytes) framed.0);
      whole_is = eqb-true (length bytes) (whole first_form bytes)
          (unbroken_not (eqb (length bytes) (whole first_form bytes))
          (min (length bytes) (whole first_form bytes)) framed.2);
      ends = entries_ends (entries bytes) (arc_count bytes) (path_count bytes)
          (entries_of (arc_count bytes) (path_count bytes) (entries bytes) framed.3);
      count = length-nodes 0 (entry (node_count bytes)) (entries bytes) bytes
          ∙ length-numbers (node_count bytes) 16 bytes;
    }

pub framed_of : (bytes : List ℕ) → IsValid bytes → IsFramed bytes
framed_of bytes valid =
    let s1 = none_parts (ruled 1 (broken_if (ltb (length bytes) 16) (length bytes))) _ valid in
    let s2 = none_parts (ruled 2 (rule_2 (first_form ∷ []) bytes)) (named_broken first_form bytes)
    s1.1 in
    let s3 = none_parts (ruled 3 (rule_3 first_form bytes)) _ s2.1 in
    let s4 = none_parts (ruled 4 (rule_4 bytes)) _ s3.1 in
    (ruled_none 1 _ s1.0, ruled_none 2 _ s2.0, ruled_none 3 _ s3.0, ruled_none 4 _ s4.0)

pub parts_of : (bytes : List ℕ) → IsValid bytes → Parts bytes
parts_of bytes valid = parts_framed bytes (framed_of bytes valid)

-- where a node's arcs stand
pub record Place (bytes : List ℕ) (id from upto start : ℕ) : Type 0 where
  pub rises : from ≤ upto
  pub within : start + 13 * upto ≤ length bytes
  pub node_is : get_or (nodes_of bytes) id []
      ≡ arcs_at first_form (upto - from) (start + 13 * from) bytes

pub place_of : (bytes : List ℕ) (id from upto start : ℕ) → IsFramed bytes
    → id < length (nodes_of bytes) → from ≡ start_of 0 (entries bytes) id
    → upto ≡ get_or (entries bytes) id 0 → start ≡ entry (node_count bytes)
    → Place bytes id from upto start
place_of bytes id from upto start valid h f u s =
    let p = parts_framed bytes valid in
    let c = p.count in
    let w = p.whole_is in
    let n : length (entries bytes) ≡ node_count bytes =
    length-numbers (node_count bytes) 16 bytes in
    let l : id < length (entries bytes) = omega (arith, h, c, n) in
    let top = upper 0 (entries bytes) (arc_count bytes) id p.ends l in
    let rise = rises_at 0 (entries bytes) (arc_count bytes) id p.ends l in
    let node = node_at 0 (entry (node_count bytes)) (entries bytes) bytes (arc_count bytes) id
    p.ends l in
    let z : entry (node_count bytes) + 13 * (start_of 0 (entries bytes) id - 0)
    ≡ start + 13 * from = omega (arith, f, s) in
    let k : get_or (entries bytes) id 0 - start_of 0 (entries bytes) id ≡ upto - from =
    omega (arith, f, u) in
    record {
      rises = omega (arith, f, u, rise);
      within = omega (arith, u, s, top, w);
      node_is = node ∙ ap (λ (m : ℕ). arcs_at first_form m
          (entry (node_count bytes) + 13 * (start_of 0 (entries bytes) id - 0)) bytes) k
          ∙ ap (λ (m : ℕ). arcs_at first_form (upto - from) m bytes) z;
    }

before_is : (bytes : List ℕ) (id : ℕ) → id < node_count bytes
    → arcs_before_node id bytes ≡ start_of 0 (entries bytes) id
before_is bytes zero h = refl
before_is bytes (suc id) h = sym (get_or-numbers (node_count bytes) 16 bytes id (omega (arith, h)))

-- the same by what the calls say
pub place : (bytes : List ℕ) (id from upto count : ℕ) → IsFramed bytes
    → id < length (nodes_of bytes) → count ≡ node_count bytes → from ≡ arcs_before_node id bytes
    → upto ≡ number_at w32 (16 + 4 * id) bytes → Place bytes id from upto (16 + 4 * count)
place bytes id from upto count valid h n f u =
    let p = parts_framed bytes valid in
    let c = p.count in
    let low : id < node_count bytes = omega (arith, h, c) in
    place_of bytes id from upto (16 + 4 * count) valid h (f ∙ before_is bytes id low)
    (u ∙ sym (get_or-numbers (node_count bytes) 16 bytes id low)) (ap entry n)

pub entry_within : (bytes : List ℕ) (id : ℕ) → IsFramed bytes → id < length (nodes_of bytes)
    → 20 + 4 * id ≤ length bytes
entry_within bytes id valid h =
    let p = parts_framed bytes valid in
    let c = p.count in
    let w = p.whole_is in
    omega (arith, h, c, w)

pub width_is : (bytes arcs : List ℕ) (id from upto start : ℕ) → Place bytes id from upto start
    → arcs ≡ take (start + 13 * upto - (start + 13 * from)) (drop (start + 13 * from) bytes)
    → length arcs ≡ 13 * length (arcs_at first_form (length arcs / 13) 0 arcs)
width_is bytes arcs id from upto start p a =
    let r = p.rises in
    let w = p.within in
    let m = start + 13 * upto - (start + 13 * from) in
    let d = length-drop (start + 13 * from) bytes in
    let l : length (take m (drop (start + 13 * from) bytes)) ≡ m =
    length-take-le m (drop (start + 13 * from) bytes) (omega (arith, r, w, d)) in
    let al : length arcs ≡ m = ap (λ (x : List ℕ). length x) a ∙ l in
    let n : length arcs / 13 ≡ upto - from = omega (arith, al, r) in
    let k = length-arcs_at (length arcs / 13) 0 arcs in
    omega (arith, al, n, k, r)

pub view_is : (bytes arcs : List ℕ) (id from upto start : ℕ) → Place bytes id from upto start
    → arcs ≡ take (start + 13 * upto - (start + 13 * from)) (drop (start + 13 * from) bytes)
    → arcs_at first_form (length arcs / 13) 0 arcs ≡ get_or (nodes_of bytes) id []
view_is bytes arcs id from upto start p a =
    let r = p.rises in
    let w = p.within in
    let m = start + 13 * upto - (start + 13 * from) in
    let d = length-drop (start + 13 * from) bytes in
    let l : length (take m (drop (start + 13 * from) bytes)) ≡ m =
    length-take-le m (drop (start + 13 * from) bytes) (omega (arith, r, w, d)) in
    let al : length arcs ≡ m = ap (λ (x : List ℕ). length x) a ∙ l in
    let n : length arcs / 13 ≡ upto - from = omega (arith, al, r) in
    let z : start + 13 * from + 0 ≡ start + 13 * from = omega (arith) in
    ap (λ (k : ℕ). arcs_at first_form k 0 arcs) n
    ∙ ap (arcs_at first_form (upto - from) 0) a
    ∙ arcs_part (upto - from) 0 (start + 13 * from) m bytes (omega (arith, r))
    ∙ ap (λ (k : ℕ). arcs_at first_form (upto - from) k bytes) z
    ∙ sym p.node_is

-- the nodes' arcs are all bytes behind the entries
pub room_of : (bytes : List ℕ) → IsFramed bytes
    → entry (node_count bytes) + 13 * sizes (nodes_of bytes) ≡ length bytes
room_of bytes framed =
    let p = parts_framed bytes framed in
    let w = p.whole_is in
    let t = sizes_of 0 (entry (node_count bytes)) (entries bytes) bytes (arc_count bytes) p.ends in
    omega (arith, w, t)

drop_next : (ns : List (List Edge)) (i : ℕ) → i < length ns
    → drop i ns ≡ get_or ns i [] ∷ drop (i + 1) ns
drop_next ns i h =
    let s : suc i ≡ i + 1 = omega (arith) in
    drop-cons ns i [] h ∙ ap (λ (k : ℕ). get_or ns i [] ∷ drop k ns) s

-- a pass over nodes, one node further
pub over_next : (test : ℕ → ℕ → List Edge → Option ℕ) (ns : List (List Edge)) (id at wide : ℕ)
    → id < length ns → wide ≡ 13 * length (get_or ns id [])
    → over first_form test id at (drop id ns)
    ≡ or_first (test id at (get_or ns id []))
    (over first_form test (id + 1) (at + wide) (drop (id + 1) ns))
over_next test ns id at wide h w =
    ap (over first_form test id at) (drop_next ns id h)
    ∙ ap (λ (k : ℕ). or_first (test id at (get_or ns id []))
    (over first_form test (id + 1) (at + k) (drop (id + 1) ns))) (sym w)

pub sizes_next : (ns : List (List Edge)) (id : ℕ) → id < length ns
    → sizes (drop id ns) ≡ length (get_or ns id []) + sizes (drop (id + 1) ns)
sizes_next ns id h = ap sizes (drop_next ns id h)
    ∙ sum_by-cons (λ (n : List Edge). length n) (get_or ns id []) (drop (id + 1) ns)

pub over_found : (x y whole : Option ℕ) (at : ℕ) → or_first x y ≡ whole → x ≡ Some at
    → Some at ≡ whole
over_found None y whole at e s = absurd cc
over_found (Some a) y whole at e s = sym s ∙ e

pub over_passed : (x y whole : Option ℕ) → or_first x y ≡ whole → x ≡ None → y ≡ whole
over_passed None y whole e s = e
over_passed (Some a) y whole e s = absurd cc
