-- The bytes of nodes, and the nodes read from them.
use Rattle.std.proofs.Common.{◌≡◌, ◌<◌, ◌≤◌, ◌+◌, ◌-◌, ◌*◌, ◌^◌, ℕ, suc, Bool, true, not, ◌&&◌, eqb}
use Rattle.std.proofs.Common.{ltb, leb, eq-eqb, List, [], ◌∷◌, ◌++◌, take, drop, min, length}
use Rattle.std.proofs.Common.{get_or, refl, sym, ap, ◌∙◌, arith, append_assoc, length-append, None}
use Rattle.std.specs.Int.{w32, to_be_bytes, from_be_bytes}
use Rattle.std.specs.List.{AllByRecursion, flat_map, sum_by}
use Rattle.std.proofs.lemmas.Bool.{lt-ltb, le-ltb, le-leb}
use Rattle.std.proofs.lemmas.List.{get_or-drop, drop-drop, append-nil}
use Rattle.std.proofs.lemmas.List.Sums.{sum_by-cons}
use Rattle.std.proofs.lemmas.Nat.{from_be_bytes-to_be_bytes_4}
use Rattle.std.proofs.Math.Seq.{drop-append_seam}
use Rattle.sg_base.specs.declared.node.Edge.{Edge}
use Rattle.fst_code.specs.Tails.{table, counted, dearest, greatest, counts}
use Rattle.fst_code.specs.Bytes.{first_form, number_at, arc_at, arcs_at, node_count, arc_count}
use Rattle.fst_code.specs.Bytes.{path_count, entry, numbers_at, entries, nodes_from, nodes_of}
use Rattle.fst_code.specs.Bytes.{arc_bytes, entry_bytes, encoding}
use Rattle.fst_code.specs.Rules.{broken_if, ruled, rule_2, rule_3, rule_4, whole, ends_broken}
use Rattle.fst_code.specs.Rules.{entries_broken, named_broken, IsValid, firsts, nodes_broken}
use Rattle.fst_code.specs.ValidNodes.{Rising, CountedFrom, AreValid}
use Rattle.fst_code.proofs.TableLemmas.{table_at, counted_local, dearest_local}
use Rattle.fst_code.proofs.RuleLemmas.{rules_hold, both_none, broken_not, broken_false}

pub record Fits (e : Edge) : Type 0 where
  pub label : e.label < 256
  pub cost : e.cost < 2 ^ 32
  pub before : e.before < 2 ^ 32
  pub target : e.target.0 < 2 ^ 32

abbrev pub sizes : List (List Edge) → ℕ
sizes = sum_by (λ (n : List Edge). length n)

-- an arc from an offset is the arc from the start of what lies behind the offset
number_shift : (at k : ℕ) (bytes : List ℕ)
    → number_at w32 (at + k) bytes ≡ number_at w32 k (drop at bytes)
number_shift at k bytes = ap (λ (xs : List ℕ). from_be_bytes w32 (take 4 xs))
    (sym (drop-drop k at bytes))

arc_shift : (at : ℕ) (bytes : List ℕ)
    → arc_at first_form at bytes ≡ arc_at first_form 0 (drop at bytes)
arc_shift at bytes =
    let label : get_or bytes at 0 ≡ get_or (drop at bytes) 0 0 =
    ap (λ (k : ℕ). get_or bytes k 0) (omega arith) ∙ sym (get_or-drop at bytes 0 0) in
    rw (label, number_shift at 1 bytes, number_shift at 5 bytes, number_shift at 9 bytes) refl

encoded_arc : (e : Edge) (rest : List ℕ) → Fits e
    → arc_at first_form 0 (arc_bytes first_form e ++ rest) ≡ e
encoded_arc e rest fits = rw (
  from_be_bytes-to_be_bytes_4 e.cost fits.cost,
  from_be_bytes-to_be_bytes_4 e.before fits.before,
  from_be_bytes-to_be_bytes_4 e.target.0 fits.target,
) refl

length-flat : (n : List Edge) → length (flat_map (arc_bytes first_form) n) ≡ 13 * length n
length-flat [] = refl
length-flat (e ∷ es) =
    let a = length-append (arc_bytes first_form e) (flat_map (arc_bytes first_form) es) in
    let one : length (arc_bytes first_form e) ≡ 13 = refl in
    let ih = length-flat es in
    omega (arith, a, one, ih)

arcs_read : (n : List Edge) (at : ℕ) (front back : List ℕ) → at ≡ length front
    → AllByRecursion Fits n → arcs_at first_form (length n) at
    (front ++ (flat_map (arc_bytes first_form) n ++ back)) ≡ n
arcs_read [] at front back h fits = refl
arcs_read (e ∷ es) at front back h fits =
    let here = arc_bytes first_form e in
    let rest = flat_map (arc_bytes first_form) es in
    let bytes = front ++ ((here ++ rest) ++ back) in
    let split : bytes ≡ front ++ (here ++ (rest ++ back)) =
    ap (λ (x : List ℕ). front ++ x) (append_assoc here rest back) in
    let behind : drop at bytes ≡ here ++ (rest ++ back) =
    ap (drop at) split ∙ ap (λ (k : ℕ). drop k (front ++ (here ++ (rest ++ back)))) h
    ∙ drop-append_seam front (here ++ (rest ++ back)) in
    let first : arc_at first_form at bytes ≡ e =
    arc_shift at bytes ∙ ap (arc_at first_form 0) behind
    ∙ encoded_arc e (rest ++ back) fits.0 in
    let moved : bytes ≡ (front ++ here) ++ (rest ++ back) =
    split ∙ sym (append_assoc front here (rest ++ back)) in
    let len : length (front ++ here) ≡ length front + length here = length-append front here in
    let one : length here ≡ 13 = refl in
    ap (λ (x : Edge). x ∷ arcs_at first_form (length es) (at + 13) bytes) first
    ∙ ap (λ (x : List Edge). e ∷ x)
    (ap (arcs_at first_form (length es) (at + 13)) moved
    ∙ arcs_read es (at + 13) (front ++ here) back (omega (arith, len, one, h)) fits.1)

-- where each node's arcs end
abbrev pub ends_from : ℕ → List (List Edge) → List ℕ
ends_from from [] = []
ends_from from (n ∷ ns) = (from + length n) ∷ ends_from (from + length n) ns

number_there : (front back : List ℕ) (at n : ℕ) → at ≡ length front → n < 2 ^ 32
    → number_at w32 at (front ++ (to_be_bytes w32 n ++ back)) ≡ n
number_there front back at n h fits =
    ap (λ (k : ℕ). from_be_bytes w32 (take 4 (drop k (front ++ (to_be_bytes w32 n ++ back))))) h
    ∙ ap (λ (xs : List ℕ). from_be_bytes w32 (take 4 xs))
    (drop-append_seam front (to_be_bytes w32 n ++ back))
    ∙ from_be_bytes-to_be_bytes_4 n fits

entries_read : (ns : List (List Edge)) (from at : ℕ) (front back : List ℕ) → at ≡ length front
    → from + sizes ns < 2 ^ 32 → numbers_at (length ns) at (front ++ (entry_bytes from ns ++ back))
    ≡ ends_from from ns
entries_read [] from at front back h fits = refl
entries_read (n ∷ ns) from at front back h fits =
    let s : sizes (n ∷ ns) ≡ length n + sizes ns = sum_by-cons (λ (n : List Edge). length n) n ns in
    let e = from + length n in
    let here = to_be_bytes w32 e in
    let rest = entry_bytes e ns in
    let bytes = front ++ ((here ++ rest) ++ back) in
    let split : bytes ≡ front ++ (here ++ (rest ++ back)) =
    ap (λ (x : List ℕ). front ++ x) (append_assoc here rest back) in
    let first : number_at w32 at bytes ≡ e =
    ap (number_at w32 at) split ∙ number_there front (rest ++ back) at e h
    (omega (arith, s, fits)) in
    let moved : bytes ≡ (front ++ here) ++ (rest ++ back) =
    split ∙ sym (append_assoc front here (rest ++ back)) in
    let len : length (front ++ here) ≡ length front + length here = length-append front here in
    let one : length here ≡ 4 = refl in
    ap (λ (x : ℕ). x ∷ numbers_at (length ns) (at + 4) bytes) first
    ∙ ap (λ (x : List ℕ). e ∷ x) (ap (numbers_at (length ns) (at + 4)) moved
    ∙ entries_read ns e (at + 4) (front ++ here) back (omega (arith, len, one, h))
    (omega (arith, s, fits)))

nodes_read : (ns : List (List Edge)) (from at : ℕ) (front back : List ℕ) → at ≡ length front
    → AllByRecursion (AllByRecursion Fits) ns
    → nodes_from first_form from at (ends_from from ns)
    (front ++ (flat_map (flat_map (arc_bytes first_form)) ns ++ back)) ≡ ns
nodes_read [] from at front back h fits = refl
nodes_read (n ∷ ns) from at front back h fits =
    let here = flat_map (arc_bytes first_form) n in
    let rest = flat_map (flat_map (arc_bytes first_form)) ns in
    let bytes = front ++ ((here ++ rest) ++ back) in
    let size : from + length n - from ≡ length n = omega (arith) in
    let split : bytes ≡ front ++ (here ++ (rest ++ back)) =
    ap (λ (x : List ℕ). front ++ x) (append_assoc here rest back) in
    let moved : bytes ≡ (front ++ here) ++ (rest ++ back) =
    split ∙ sym (append_assoc front here (rest ++ back)) in
    let len : length (front ++ here) ≡ length front + length here = length-append front here in
    let one : length here ≡ 13 * length n = length-flat n in
    let first : arcs_at first_form (from + length n - from) at bytes ≡ n =
    ap (λ (k : ℕ). arcs_at first_form k at bytes) size
    ∙ ap (arcs_at first_form (length n) at) split
    ∙ arcs_read n at front (rest ++ back) h fits.0 in
    let next : at + 13 * (from + length n - from) ≡ at + 13 * length n =
    ap (λ (k : ℕ). at + 13 * k) size in
    ap (λ (x : List Edge). x ∷ nodes_from first_form (from + length n)
    (at + 13 * (from + length n - from)) (ends_from (from + length n) ns) bytes) first
    ∙ ap (λ (k : ℕ). n ∷ nodes_from first_form (from + length n) k (ends_from (from + length n) ns)
    bytes) next
    ∙ ap (λ (x : List (List Edge)). n ∷ x)
    (ap (nodes_from first_form (from + length n) (at + 13 * length n)
    (ends_from (from + length n) ns)) moved
    ∙ nodes_read ns (from + length n) (at + 13 * length n) (front ++ here) back
    (omega (arith, len, one, h)) fits.1)

length-entries : (from : ℕ) (ns : List (List Edge)) → length (entry_bytes from ns) ≡ 4 * length ns
length-entries from [] = refl
length-entries from (n ∷ ns) =
    let a = length-append (to_be_bytes w32 (from + length n)) (entry_bytes (from + length n) ns) in
    let one : length (to_be_bytes w32 (from + length n)) ≡ 4 = refl in
    let ih = length-entries (from + length n) ns in
    omega (arith, a, one, ih)

length-arcs : (ns : List (List Edge))
    → length (flat_map (flat_map (arc_bytes first_form)) ns) ≡ 13 * sizes ns
length-arcs [] = refl
length-arcs (n ∷ ns) =
    let a = length-append (flat_map (arc_bytes first_form) n)
    (flat_map (flat_map (arc_bytes first_form)) ns) in
    let one = length-flat n in
    let ih = length-arcs ns in
    let s : sizes (n ∷ ns) ≡ length n + sizes ns = sum_by-cons (λ (n : List Edge). length n) n ns in
    omega (arith, a, one, ih, s)

-- the header
abbrev pub header : ℕ → List (List Edge) → List ℕ
header paths ns = 83 ∷ 71 ∷ 84 ∷ 49 ∷ to_be_bytes w32 (length ns) ++ to_be_bytes w32 (sizes ns)
    ++ to_be_bytes w32 paths

abbrev pub body : List (List Edge) → List ℕ
body ns = entry_bytes 0 ns ++ flat_map (flat_map (arc_bytes first_form)) ns

node_count_is : (paths : ℕ) (ns : List (List Edge)) → length ns < 2 ^ 32
    → node_count (encoding first_form paths ns) ≡ length ns
node_count_is paths ns h = from_be_bytes-to_be_bytes_4 (length ns) h

arc_count_is : (paths : ℕ) (ns : List (List Edge)) → sizes ns < 2 ^ 32
    → arc_count (encoding first_form paths ns) ≡ sizes ns
arc_count_is paths ns h = from_be_bytes-to_be_bytes_4 (sizes ns) h

path_count_is : (paths : ℕ) (ns : List (List Edge)) → paths < 2 ^ 32
    → path_count (encoding first_form paths ns) ≡ paths
path_count_is paths ns h = from_be_bytes-to_be_bytes_4 paths h

entries_are : (paths : ℕ) (ns : List (List Edge)) → length ns < 2 ^ 32 → sizes ns < 2 ^ 32
    → entries (encoding first_form paths ns) ≡ ends_from 0 ns
entries_are paths ns h k =
    ap (λ (n : ℕ). numbers_at n 16 (encoding first_form paths ns)) (node_count_is paths ns h)
    ∙ entries_read ns 0 16 (header paths ns) (flat_map (flat_map (arc_bytes first_form)) ns) refl
    (omega (arith, k))

nodes_are : (paths : ℕ) (ns : List (List Edge)) → length ns < 2 ^ 32 → sizes ns < 2 ^ 32
    → AllByRecursion (AllByRecursion Fits) ns → nodes_of (encoding first_form paths ns) ≡ ns
nodes_are paths ns h k fits =
    let bytes = encoding first_form paths ns in
    let arcs = flat_map (flat_map (arc_bytes first_form)) ns in
    let front = header paths ns ++ entry_bytes 0 ns in
    let moved : bytes ≡ front ++ (arcs ++ []) =
    ap (λ (x : List ℕ). front ++ x) (sym (append-nil arcs)) in
    let len : length front ≡ 16 + 4 * length ns =
    length-append (header paths ns) (entry_bytes 0 ns)
    ∙ ap (λ (k : ℕ). 16 + k) (length-entries 0 ns) in
    let e : entry (node_count bytes) ≡ length front =
    ap entry (node_count_is paths ns h) ∙ sym len in
    ap (λ (es : List ℕ). nodes_from first_form 0 (entry (node_count bytes)) es bytes)
    (entries_are paths ns h k)
    ∙ ap (nodes_from first_form 0 (entry (node_count bytes)) (ends_from 0 ns)) moved
    ∙ nodes_read ns 0 (entry (node_count bytes)) front [] e fits

length-encoding : (paths : ℕ) (ns : List (List Edge))
    → length (encoding first_form paths ns) ≡ 16 + 4 * length ns + 13 * sizes ns
length-encoding paths ns =
    let a = length-append (header paths ns) (body ns) in
    let one : length (header paths ns) ≡ 16 = refl in
    let b = length-append (entry_bytes 0 ns) (flat_map (flat_map (arc_bytes first_form)) ns) in
    let c = length-entries 0 ns in
    let d = length-arcs ns in
    omega (arith, a, one, b, c, d)

-- a node's arcs have different labels
rising_few : (e : Edge) (es : List Edge) → Rising (e ∷ es)
    → AllByRecursion (λ (e : Edge). e.label < 256) (e ∷ es) → e.label + length (e ∷ es) ≤ 256
rising_few e [] r l = omega (arith, l.0)
rising_few e (d ∷ es) r l = let ih = rising_few d es r.1 l.1 in omega (arith, ih, r.0)

pub few_arcs : (es : List Edge) → Rising es → AllByRecursion (λ (e : Edge). e.label < 256) es
    → length es ≤ 256
few_arcs [] r l = omega (arith)
few_arcs (e ∷ es) r l = let h = rising_few e es r l in omega (arith, h)

and_two : (a b : Bool) → a ≡ true → b ≡ true → (a && b) ≡ true
and_two a b e f = rw (e, f) refl

and_three : (a b c : Bool) → a ≡ true → b ≡ true → c ≡ true → (a && b && c) ≡ true
and_three a b c e f g = rw (e, f, g) refl

ends_hold : (all at from : ℕ) (n : List Edge) (ns : List (List Edge))
    → ((k : ℕ) → k < length (n ∷ ns)
    → (0 < length (get_or (n ∷ ns) k [])) × (length (get_or (n ∷ ns) k []) ≤ 256))
    → from + sizes (n ∷ ns) ≡ all → ends_broken all at from (ends_from from (n ∷ ns)) ≡ None
ends_hold all at from n [] each total =
    let s : sizes (n ∷ []) ≡ length n + 0 = sum_by-cons (λ (n : List Edge). length n) n [] in
    let h = each 0 (omega arith) in
    let e = from + length n in
    broken_not (ltb from e && leb e (from + 256) && eqb e all) at
    (and_three (ltb from e) (leb e (from + 256)) (eqb e all) (lt-ltb from e (omega (arith, h.0)))
    (le-leb e (from + 256) (omega (arith, h.1))) (eq-eqb e all (omega (arith, s, total))))
ends_hold all at from n (m ∷ ms) each total =
    let s : sizes (n ∷ m ∷ ms) ≡ length n + sizes (m ∷ ms) =
    sum_by-cons (λ (n : List Edge). length n) n (m ∷ ms) in
    let h = each 0 (omega arith) in
    let e = from + length n in
    both_none (broken_if (not (ltb from e && leb e (from + 256))) at)
    (ends_broken all (at + 4) e (ends_from e (m ∷ ms)))
    (broken_not (ltb from e && leb e (from + 256)) at
    (and_two (ltb from e) (leb e (from + 256)) (lt-ltb from e (omega (arith, h.0)))
    (le-leb e (from + 256) (omega (arith, h.1)))))
    (ends_hold all (at + 4) e m ms (λ k l. each (suc k) (omega (arith, l)))
    (omega (arith, s, total)))

entries_hold : (paths : ℕ) (ns : List (List Edge)) → 2 ≤ length ns → get_or ns 0 [] ≡ []
    → ((k : ℕ) → 0 < k → k < length ns
    → (0 < length (get_or ns k [])) × (length (get_or ns k []) ≤ 256))
    → entries_broken (sizes ns) paths (ends_from 0 ns) ≡ None
entries_hold paths [] two first each = absurd (omega (arith, two))
entries_hold paths (n ∷ []) two first each = absurd (omega (arith, two))
entries_hold paths (n ∷ m ∷ ms) two first each =
    let l : length n ≡ 0 = ap (λ (x : List Edge). length x) first in
    let z : 0 + length n ≡ 0 = omega (arith, l) in
    let s : sizes (n ∷ m ∷ ms) ≡ length n + sizes (m ∷ ms) =
    sum_by-cons (λ (n : List Edge). length n) n (m ∷ ms) in
    both_none (broken_if (not (eqb (0 + length n) 0)) 16)
    (ends_broken (sizes (n ∷ m ∷ ms)) 20 0 (ends_from (0 + length n) (m ∷ ms)))
    (broken_not (eqb (0 + length n) 0) 16 (eq-eqb (0 + length n) 0 z))
    (ap (λ (k : ℕ). ends_broken (sizes (n ∷ m ∷ ms)) 20 0 (ends_from k (m ∷ ms))) z
    ∙ ends_hold (sizes (n ∷ m ∷ ms)) 20 0 m ms
    (λ k h. each (suc k) (omega arith) (omega (arith, h))) (omega (arith, s, l)))

fits_from : (ns : List (List Edge)) (id sofar : ℕ) (es : List Edge) → id < 2 ^ 32
    → CountedFrom (counts ns) sofar es
    → sofar + sum_by (λ (x : Edge). get_or (counts ns) x.target.0 0) es ≤ 4194304
    → greatest (λ (x : Edge). x.cost + get_or (table dearest [] ns) x.target.0 0) es ≤ 2147483647
    → AllByRecursion (λ (e : Edge). e.label < 256) es
    → AllByRecursion (λ (e : Edge). e.target.0 < id) es → AllByRecursion Fits es
fits_from ns id sofar [] hid c total dear labels below = tt
fits_from ns id sofar (e ∷ es) hid c total dear labels below =
    let s : sum_by (λ (x : Edge). get_or (counts ns) x.target.0 0) (e ∷ es)
    ≡ get_or (counts ns) e.target.0 0 + sum_by (λ (x : Edge). get_or (counts ns) x.target.0 0)
    es = sum_by-cons (λ (x : Edge). get_or (counts ns) x.target.0 0) e es in (
      record {
        label = labels.0;
        cost = omega (arith, dear);
        before =
            omega (arith, c.0, total, s);
        target = omega (arith, below.0, hid);
      },
      fits_from ns id (sofar + get_or (counts ns) e.target.0 0) es hid c.1 (omega (arith, s, total))
          (omega (arith, dear)) labels.1 below.1,
    )

all_nodes : (P : List Edge → Type 0) (ns : List (List Edge))
    → ((id : ℕ) → id < length ns → P (get_or ns id [])) → AllByRecursion P ns
all_nodes P [] each = tt
all_nodes P (n ∷ ns) each = (
  each 0 (omega arith),
  all_nodes P ns (λ i h. each (suc i) (omega (arith, h))),
)

counted_le : (ns : List (List Edge)) (es : List Edge) → counted (counts ns) es ≤ 4194304
    → sum_by (λ (x : Edge). get_or (counts ns) x.target.0 0) es ≤ 4194304
counted_le ns [] h = omega (arith)
counted_le ns (e ∷ es) h = h

pub valid_fit : (paths : ℕ) (ns : List (List Edge)) → AreValid paths ns → length ns < 2 ^ 32
    → AllByRecursion (AllByRecursion Fits) ns
valid_fit paths ns s h =
    all_nodes (AllByRecursion Fits) ns (λ id l.
    let c = table_at 0 counted counted_local ns id l s.below in
    let d = table_at 0 dearest dearest_local ns id l s.below in
    let m = s.many id in
    let q = s.dear id in
    fits_from ns id 0 (get_or ns id []) (omega (arith, l, h)) (s.before id)
    (let k = counted_le ns (get_or ns id []) (omega (arith, c, m)) in omega (arith, k))
    (omega (arith, d, q)) (s.labels id) (s.below id))

pub encoded_valid : (paths : ℕ) (ns : List (List Edge)) → AreValid paths ns → length ns < 2 ^ 32
    → sizes ns < 2 ^ 32 → IsValid (encoding first_form paths ns)
    × (nodes_of (encoding first_form paths ns) ≡ ns)
encoded_valid paths ns s h k =
    let bytes = encoding first_form paths ns in
    let nodes = nodes_are paths ns h k (valid_fit paths ns s h) in
    let n = node_count_is paths ns h in
    let a = arc_count_is paths ns k in
    let few : paths < 2 ^ 32 = (let m = s.many (length ns - 1) in let p =
    s.paths_are in omega (arith, m, p)) in
    let p = path_count_is paths ns few in
    let len = length-encoding paths ns in
    let one : ruled 1 (broken_if (ltb (length bytes) 16) (length bytes)) ≡ None =
    ap (ruled 1) (broken_false (ltb (length bytes) 16) (length bytes)
    (le-ltb (length bytes) 16 (omega (arith, len)))) in
    let two : ruled 2 (rule_2 (first_form ∷ []) bytes) ≡ None = refl in
    let w : whole first_form bytes ≡ 16 + 4 * length ns + 13 * sizes ns =
    ap (λ (k : ℕ). 16 + 4 * k + 13 * arc_count bytes) n
    ∙ ap (λ (k : ℕ). 16 + 4 * length ns + 13 * k) a in
    let three : ruled 3 (rule_3 first_form bytes) ≡ None =
    ap (ruled 3) (broken_not (eqb (length bytes) (whole first_form bytes))
    (min (length bytes) (whole first_form bytes))
    (eq-eqb (length bytes) (whole first_form bytes) (len ∙ sym w))) in
    let four : ruled 4 (rule_4 bytes) ≡ None =
    ap (ruled 4) (ap (λ (es : List ℕ). entries_broken (arc_count bytes) (path_count bytes) es)
    (entries_are paths ns h k)
    ∙ ap (λ (m : ℕ). entries_broken m (path_count bytes) (ends_from 0 ns)) a
    ∙ entries_hold (path_count bytes) ns s.two s.end_is
    (λ i q l. (s.some i q l, few_arcs (get_or ns i []) (s.rising i) (s.labels i)))) in
    let rest : firsts (nodes_broken first_form (path_count bytes) (nodes_of bytes)) ≡ None =
    ap (λ (m : ℕ). firsts (nodes_broken first_form m (nodes_of bytes))) p
    ∙ ap (λ (x : List (List Edge)). firsts (nodes_broken first_form paths x)) nodes
    ∙ rules_hold paths ns s in (
      both_none (ruled 1 (broken_if (ltb (length bytes) 16) (length bytes))) _ one
          (both_none (ruled 2 (rule_2 (first_form ∷ []) bytes)) (named_broken first_form bytes) two
          (both_none (ruled 3 (rule_3 first_form bytes)) _ three
          (both_none (ruled 4 (rule_4 bytes)) _ four rest))),
      nodes,
    )
