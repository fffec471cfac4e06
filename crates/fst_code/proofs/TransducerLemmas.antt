-- The nodes of valid bytes are those of a transducer.
use Rattle.std.proofs.Common.{◌≡◌, ◌<◌, ◌≤◌, ◌+◌, ◌-◌, ◌⊎◌, inl, inr, ℕ, zero, suc, List}
use Rattle.std.proofs.Common.{[], ◌∷◌, ◌++◌, map, take, drop, length, get_or, refl, sym, ap}
use Rattle.std.proofs.Common.{subst, ◌∙◌, arith}
use Rattle.std.specs.List.{AllByRecursion, flat_map}
use Rattle.std.specs.Int.{w32, from_be_bytes}
use Rattle.std.proofs.lemmas.Bool.{cases_lt}
use Rattle.std.proofs.Math.Nat.{le-max_left, le-max_right}
use Rattle.sg_base.specs.declared.node.Edge.{Edge}
use Rattle.fst_code.specs.Bytes.{node_count, nodes_of, path_count}
use Rattle.fst_code.specs.Lists.{HasFree, root_paths}
use Rattle.fst_code.specs.Rules.{IsValid}
use Rattle.fst_code.specs.Shapes.{IsBytes}
use Rattle.fst_code.specs.Tails.{Tail, along, counts, dearest, greatest, longest, mapped, spread}
use Rattle.fst_code.specs.Tails.{table, tails}
use Rattle.fst_code.specs.Transducers.{Counts, IsTransducer, Rises}
use Rattle.fst_code.specs.ValidNodes.{AreValid, CountedFrom, Rising}
use Rattle.fst_code.proofs.BytesLemmas.{bytes_drop, bytes_take, valid_bytes}
use Rattle.fst_code.proofs.CanonicalLemmas.{free_below}
use Rattle.fst_code.proofs.EncodingLemmas.{few_arcs}
use Rattle.fst_code.proofs.OneTextLemmas.{count_is, root_some}
use Rattle.fst_code.proofs.TableLemmas.{Falls, dearest_local, longest_local, mapped_local, table_at}
use Rattle.fst_code.proofs.ViewLemmas.{parts_of}

-- what an arc has beneath all later ones
rises_above : (l : ℕ) (e : Edge) (es : List Edge) → l < e.label → Rising (e ∷ es)
    → AllByRecursion (λ (d : Edge). l < d.label) (e ∷ es)
rises_above l e [] h r = (h, tt)
rises_above l e (d ∷ es) h r = (h, rises_above l d es (omega (arith, h, r.0)) r.1)

rises_of : (es : List Edge) → Rising es → Rises es
rises_of [] r = tt
rises_of (e ∷ []) r = (tt, tt)
rises_of (e ∷ d ∷ es) r = (rises_above e.label d es r.0 r.1, rises_of (d ∷ es) r.1)

counts_of : (ns : List (List Edge)) (sofar : ℕ) (es : List Edge) → CountedFrom (counts ns) sofar es
    → Counts (tails ns) sofar es
unfolding tails
counts_of ns sofar [] c = tt
counts_of ns sofar (e ∷ es) c =
    let same : sofar + get_or (counts ns) e.target.0 0 ≡ sofar + length (tails ns e.target.0) =
    ap (λ (k : ℕ). sofar + k) (count_is ns e.target.0)
    in (
      c.0,
      subst (λ (k : ℕ). Counts (tails ns) k es) same
          (counts_of ns (sofar + get_or (counts ns) e.target.0 0) es c.1),
    )

flat_spread : (ns : List (List Edge)) (es : List Edge)
    → flat_map (λ (x : Edge). map (along x) (get_or (table mapped [] ns) x.target.0 [])) es
    ≡ spread (tails ns) es
unfolding tails
flat_spread ns [] = refl
flat_spread ns (e ∷ es) =
    ap (λ (r : List Tail). map (along e) (get_or (table mapped [] ns) e.target.0 []) ++ r)
    (flat_spread ns es)

spread_is : (ns : List (List Edge)) (es : List Edge) → 0 < length es
    → mapped (table mapped [] ns) es ≡ spread (tails ns) es
spread_is ns [] h = absurd (omega (arith, h))
spread_is ns (e ∷ es) h = flat_spread ns (e ∷ es)

tails_at : (ns : List (List Edge)) (id : ℕ) → Falls ns → id < length ns
    → tails ns id ≡ mapped (table mapped [] ns) (get_or ns id [])
unfolding tails
tails_at ns id falls h = table_at [] mapped mapped_local ns id h falls

pub inner_is : (ns : List (List Edge)) (id : ℕ) → Falls ns → id < length ns
    → 0 < length (get_or ns id []) → tails ns id ≡ spread (tails ns) (get_or ns id [])
inner_is ns id falls h some = tails_at ns id falls h ∙ spread_is ns (get_or ns id []) some

some_free : (ts : List Tail) → HasFree ts → 0 < length ts
some_free [] h = absurd h
some_free (t ∷ ts) h = omega (arith)

some_unless : (ts : List Tail) → (ts ≡ [] → ⊥) → 0 < length ts
some_unless [] h = absurd (h refl)
some_unless (t ∷ ts) h = omega (arith)

-- A measure of ways that an arc carries on, and its greatest value for each node.
pub record IsMost (ns : List (List Edge)) (measure : Tail → ℕ) (add : Edge → ℕ → ℕ) (most : ℕ → ℕ)
    : Type 0 where
  pub ended : measure ([], 0) ≡ 0
  pub carried : (e : Edge) (t : Tail) → measure (along e t) ≡ add e (measure t)
  pub rises : (e : Edge) (m n : ℕ) → m ≤ n → add e m ≤ add e n
  pub at : (id : ℕ) → id < length ns
      → most id ≡ greatest (λ (x : Edge). add x (most x.target.0)) (get_or ns id [])

all_along : (ns : List (List Edge)) (measure : Tail → ℕ) (add : Edge → ℕ → ℕ) (most : ℕ → ℕ)
    (e : Edge) (ts : List Tail) (top : ℕ) → IsMost ns measure add most
    → AllByRecursion (λ (t : Tail). measure t ≤ most e.target.0) ts
    → add e (most e.target.0) ≤ top
    → AllByRecursion (λ (t : Tail). measure t ≤ top) (map (along e) ts)
all_along ns measure add most e [] top m all h = tt
all_along ns measure add most e (t ∷ ts) top m all h =
    let is = m.carried e t in
    let le = m.rises e (measure t) (most e.target.0) all.0 in
    (omega (arith, is, le, h), all_along ns measure add most e ts top m all.1 h)

all_join : (P : Tail → Type 0) (xs ys : List Tail) → AllByRecursion P xs → AllByRecursion P ys
    → AllByRecursion P (xs ++ ys)
all_join P [] ys a b = b
all_join P (x ∷ xs) ys a b = (a.0, all_join P xs ys a.1 b)

all_spread : (ns : List (List Edge)) (measure : Tail → ℕ) (add : Edge → ℕ → ℕ) (most : ℕ → ℕ)
    (id top : ℕ) (es : List Edge) → IsMost ns measure add most
    → AllByRecursion (λ (e : Edge). e.target.0 < id) es
    → ((k : ℕ) → k < id → AllByRecursion (λ (t : Tail). measure t ≤ most k) (tails ns k))
    → greatest (λ (x : Edge). add x (most x.target.0)) es ≤ top
    → AllByRecursion (λ (t : Tail). measure t ≤ top) (spread (tails ns) es)
all_spread ns measure add most id top [] m below each h = tt
all_spread ns measure add most id top (e ∷ es) m below each h =
    let f = λ (x : Edge). add x (most x.target.0) in
    let left = le-max_left (f e) (greatest f es) in
    let right = le-max_right (f e) (greatest f es) in
    all_join (λ (t : Tail). measure t ≤ top) (map (along e) (tails ns e.target.0))
    (spread (tails ns) es)
    (all_along ns measure add most e (tails ns e.target.0) top m (each e.target.0 below.0)
    (omega (arith, left, h)))
    (all_spread ns measure add most id top es m below.1 each (omega (arith, right, h)))

end_is : (paths : ℕ) (ns : List (List Edge)) → AreValid paths ns → tails ns 0 ≡ ([], 0) ∷ []
end_is paths ns v =
    let two = v.two in
    tails_at ns 0 v.below (omega (arith, two)) ∙ ap (mapped (table mapped [] ns)) v.end_is

-- no way from a node has a greater measure than its most
all_most : (paths : ℕ) (ns : List (List Edge)) (measure : Tail → ℕ) (add : Edge → ℕ → ℕ)
    (most : ℕ → ℕ) → AreValid paths ns → IsMost ns measure add most → (bound id : ℕ) → id < bound
    → id < length ns → AllByRecursion (λ (t : Tail). measure t ≤ most id) (tails ns id)
all_most paths ns measure add most v m zero id h l = absurd (omega (arith, h))
all_most paths ns measure add most v m (suc bound) zero h l =
    let end = end_is paths ns v in
    let z = m.ended in
    subst (AllByRecursion (λ (t : Tail). measure t ≤ most 0)) (sym end) (omega (arith, z), tt)
all_most paths ns measure add most v m (suc bound) (suc id) h l =
    let is = m.at (suc id) l in
    subst (AllByRecursion (λ (t : Tail). measure t ≤ most (suc id)))
    (sym (inner_is ns (suc id) v.below l (v.some (suc id) (omega arith) l)))
    (all_spread ns measure add most (suc id) (most (suc id)) (get_or ns (suc id) []) m
    (v.below (suc id))
    (λ k j. all_most paths ns measure add most v m bound k (omega (arith, j, h))
    (omega (arith, j, l)))
    (omega (arith, is)))

all_weaker : (P Q : Tail → Type 0) (ts : List Tail) → ((t : Tail) → P t → Q t)
    → AllByRecursion P ts → AllByRecursion Q ts
all_weaker P Q [] f all = tt
all_weaker P Q (t ∷ ts) f all = (f t all.0, all_weaker P Q ts f all.1)

most_dear : (paths : ℕ) (ns : List (List Edge)) → AreValid paths ns
    → IsMost ns (λ (t : Tail). t.1) (λ (e : Edge) (n : ℕ). e.cost + n)
    (λ (id : ℕ). get_or (table dearest [] ns) id 0)
most_dear paths ns v = record {
  ended = refl;
  carried = λ e t. refl;
  rises = λ e m n h. omega (arith, h);
  at = λ id h. table_at 0 dearest dearest_local ns id h v.below;
}

most_long : (paths : ℕ) (ns : List (List Edge)) → AreValid paths ns
    → IsMost ns (λ (t : Tail). length t.0) (λ (e : Edge) (n : ℕ). 1 + n)
    (λ (id : ℕ). get_or (table longest [] ns) id 0)
most_long paths ns v = record {
  ended = refl;
  carried = λ e t. omega (arith);
  rises = λ e m n h. omega (arith, h);
  at = λ id h. table_at 0 longest longest_local ns id h v.below;
}

some_at : (paths : ℕ) (ns : List (List Edge)) (id : ℕ) → AreValid paths ns → id < length ns
    → (id + 1 < length ns) ⊎ (length ns ≤ id + 1) → 0 < length (tails ns id)
some_at paths ns id v h (inl l) =
    some_free (tails ns id) (free_below paths ns v (suc id) id (omega arith) l)
some_at paths ns id v h (inr l) =
    let last : length ns - 1 ≡ id = omega (arith, h, l) in
    subst (λ (k : ℕ). 0 < length (tails ns k)) last
    (some_unless (root_paths ns) (root_some paths ns v))

last_count : (ns : List (List Edge))
    → length (root_paths ns) ≡ get_or (counts ns) (length ns - 1) 0
unfolding tails
last_count ns = sym (count_is ns (length ns - 1))

pub valid_transducer : (paths : ℕ) (ns : List (List Edge)) → AreValid paths ns
    → length ns < 4294967296 → IsTransducer ns
valid_transducer paths ns v fit =
    let two = v.two in
    let last : length ns - 1 < length ns = omega (arith, two) in
    let many = v.many (length ns - 1) in
    let is = last_count ns in
    record {
      node = λ id h. record {
        rises = rises_of (get_or ns id []) (v.rising id);
        below = v.below id;
        counts = counts_of ns 0 (get_or ns id []) (v.before id);
        few = few_arcs (get_or ns id []) (v.rising id) (v.labels id);
      };
      inner = λ id p h. inner_is ns id v.below h (v.some id p h);
      some = λ id h. some_at paths ns id v h (cases_lt (id + 1) (length ns));
      free = λ id h. free_below paths ns v (suc id) id (omega arith) h;
      the_end = λ h. (v.end_is, end_is paths ns v);
      fit = fit;
      paths = omega (arith, many, is);
      cheap = all_weaker _ _ (root_paths ns)
          (λ t h. let d = v.dear (length ns - 1) in omega (arith, h, d))
          (all_most paths ns _ _ _ v (most_dear paths ns v) (length ns) (length ns - 1) last last);
      short = all_weaker _ _ (root_paths ns)
          (λ t h. let d = v.long (length ns - 1) in omega (arith, h, d))
          (all_most paths ns _ _ _ v (most_long paths ns v) (length ns) (length ns - 1) last last);
    }

none_transducer : IsTransducer []
unfolding tails
none_transducer = record {
  node = λ id h. absurd (omega (arith, h));
  inner = λ id p h. absurd (omega (arith, h));
  some = λ id h. absurd (omega (arith, h));
  free = λ id h. absurd (omega (arith, h));
  the_end = λ h. absurd (omega (arith, h));
  fit = omega (arith);
  paths = omega (arith);
  cheap = tt;
  short = tt;
}

either_transducer : (paths : ℕ) (ns : List (List Edge)) → length ns < 4294967296
    → ((ns ≡ []) × (paths ≡ 0)) ⊎ AreValid paths ns → IsTransducer ns
either_transducer paths ns fit (inl none) = subst IsTransducer (sym none.0) none_transducer
either_transducer paths ns fit (inr v) = valid_transducer paths ns v fit

-- a number of four bytes
four_bytes : (bytes : List ℕ) → IsBytes bytes → from_be_bytes w32 bytes < 4294967296
four_bytes bytes fits =
    let a = fits 0 in
    let b = fits 1 in
    let c = fits 2 in
    let d = fits 3 in
    omega (arith, a, b, c, d)

pub transducer_of : (bytes : List ℕ) → IsBytes bytes → IsValid bytes → IsTransducer (nodes_of bytes)
transducer_of bytes fits valid =
    let count = (parts_of bytes valid).count in
    let small : node_count bytes < 4294967296 =
    four_bytes (take 4 (drop 4 bytes)) (bytes_take 4 (drop 4 bytes) (bytes_drop 4 bytes fits))
    in
    either_transducer (path_count bytes) (nodes_of bytes) (omega (arith, count, small))
    (valid_bytes bytes fits valid).1
