-- Equal nodes, and what tables have for them.
use Rattle.std.proofs.Common.{◌≡◌, ◌<◌, ◌≤◌, ◌+◌, ◌-◌, ℕ, true, false, eqb}
use Rattle.std.proofs.Common.{eq-eqb, List, [], ◌∷◌, ◌++◌, map, max, min, length, get_or}
use Rattle.std.proofs.Common.{refl, sym, ap, subst, ◌∙◌, append_assoc, arith, ◌⊎◌, inl, inr}
use Rattle.std.specs.List.{AllByRecursion, flat_map, sum_by}
use Rattle.std.proofs.lemmas.List.Sums.{sum_by-cons}
use Rattle.std.proofs.lemmas.Bool.{cases_lt, or_left, or_right}
use Rattle.std.proofs.lemmas.List.{map-append, append-nil}
use Rattle.sg_base.specs.declared.node.Edge.{Edge}
use Rattle.sg_base.proofs.EqualNodes.{Alike}
use Rattle.fst_code.specs.Tails.{Tail, along, mapped, counted, dearest, longest, greatest}
use Rattle.fst_code.specs.Rules.{for_targets, is_free}
use Rattle.fst_build.specs.Building.{ways_of, with_label, with_cost, least_of, lowered_arc}
use Rattle.fst_build.specs.Building.{total_count, CountedFrom, RisesTo, Rising, paths_under, Frame}
use Rattle.fst_build.specs.Building.{AreFrames, IsFrame}
use Rattle.fst_code.proofs.TableLemmas.{Below}

pub targets_alike : {A : Type 0} (f : ℕ → A → A) (a b : List Edge) (done : A) → Alike a b
    → for_targets f a done ≡ for_targets f b done
targets_alike f [] [] done h = refl
targets_alike f [] (d ∷ ds) done h = absurd h
targets_alike f (e ∷ es) [] done h = absurd h
targets_alike f (e ∷ es) (d ∷ ds) done h =
    ap (λ (t : ℕ). for_targets f es (f t done)) h.2 ∙ targets_alike f es ds (f d.target.0 done) h.3

pub below_alike : (k : ℕ) (a b : List Edge) → Alike a b → Below k a → Below k b
below_alike k [] [] h all = tt
below_alike k [] (d ∷ ds) h all = absurd h
below_alike k (e ∷ es) [] h all = absurd h
below_alike k (e ∷ es) (d ∷ ds) h all = (omega (arith, h.2, all.0), below_alike k es ds h.3 all.1)

along_alike : (e d : Edge) (ts : List Tail) → e.label ≡ d.label → e.cost ≡ d.cost
    → map (along e) ts ≡ map (along d) ts
along_alike e d [] l c = refl
along_alike e d (t ∷ ts) l c =
    ap (λ (x : ℕ). (x ∷ t.0, e.cost + t.1) ∷ map (along e) ts) l
    ∙ ap (λ (x : ℕ). (d.label ∷ t.0, x + t.1) ∷ map (along e) ts) c
    ∙ ap (λ (r : List Tail). (d.label ∷ t.0, d.cost + t.1) ∷ r) (along_alike e d ts l c)

pub ways_alike : (known : List (List Tail)) (a b : List Edge) → Alike a b
    → ways_of known a ≡ ways_of known b
ways_alike known [] [] h = refl
ways_alike known [] (d ∷ ds) h = absurd h
ways_alike known (e ∷ es) [] h = absurd h
ways_alike known (e ∷ es) (d ∷ ds) h =
    ap (λ (t : ℕ). map (along e) (get_or known t []) ++ ways_of known es) h.2
    ∙ ap (λ (r : List Tail). r ++ ways_of known es)
    (along_alike e d (get_or known d.target.0 []) h.0 h.1)
    ∙ ap (λ (r : List Tail). map (along d) (get_or known d.target.0 []) ++ r)
    (ways_alike known es ds h.3)

pub total_alike : (known : List ℕ) (a b : List Edge) → Alike a b
    → total_count known a ≡ total_count known b
total_alike known [] [] h = refl
total_alike known [] (d ∷ ds) h = absurd h
total_alike known (e ∷ es) [] h = absurd h
total_alike known (e ∷ es) (d ∷ ds) h =
    ap (λ (t : ℕ). get_or known t 0 + total_count known es) h.2
    ∙ ap (λ (n : ℕ). get_or known d.target.0 0 + n) (total_alike known es ds h.3)

pub dearest_alike : (known : List ℕ) (a b : List Edge) → Alike a b
    → dearest known a ≡ dearest known b
dearest_alike known [] [] h = refl
dearest_alike known [] (d ∷ ds) h = absurd h
dearest_alike known (e ∷ es) [] h = absurd h
dearest_alike known (e ∷ es) (d ∷ ds) h =
    ap (λ (t : ℕ). max (e.cost + get_or known t 0) (dearest known es)) h.2
    ∙ ap (λ (c : ℕ). max (c + get_or known d.target.0 0) (dearest known es)) h.1
    ∙ ap (λ (n : ℕ). max (d.cost + get_or known d.target.0 0) n) (dearest_alike known es ds h.3)

pub longest_alike : (known : List ℕ) (a b : List Edge) → Alike a b
    → longest known a ≡ longest known b
longest_alike known [] [] h = refl
longest_alike known [] (d ∷ ds) h = absurd h
longest_alike known (e ∷ es) [] h = absurd h
longest_alike known (e ∷ es) (d ∷ ds) h =
    ap (λ (t : ℕ). max (1 + get_or known t 0) (longest known es)) h.2
    ∙ ap (λ (n : ℕ). max (1 + get_or known d.target.0 0) n) (longest_alike known es ds h.3)

pub some_same : (a b : List Edge) → Alike a b → 0 < length b → 0 < length a
some_same [] [] h k = k
some_same [] (d ∷ ds) h k = absurd h
some_same (e ∷ es) b h k = omega (arith)

-- a node with edges maps and counts by them
flat_ways : (known : List (List Tail)) (es : List Edge)
    → flat_map (λ (x : Edge). map (along x) (get_or known x.target.0 [])) es ≡ ways_of known es
flat_ways known [] = refl
flat_ways known (e ∷ es) =
    ap (λ (r : List Tail). map (along e) (get_or known e.target.0 []) ++ r) (flat_ways known es)

pub mapped_ways : (known : List (List Tail)) (es : List Edge) → 0 < length es
    → mapped known es ≡ ways_of known es
mapped_ways known [] h = absurd (omega (arith, h))
mapped_ways known (e ∷ es) h = flat_ways known (e ∷ es)

sum_total : (known : List ℕ) (es : List Edge)
    → sum_by (λ (x : Edge). get_or known x.target.0 0) es ≡ total_count known es
sum_total known [] = refl
sum_total known (e ∷ es) =
    let ih = sum_total known es in
    let s = sum_by-cons (λ (x : Edge). get_or known x.target.0 0) e es in
    omega (arith, ih, s)

pub counted_total : (known : List ℕ) (es : List Edge) → 0 < length es
    → counted known es ≡ total_count known es
counted_total known [] h = absurd (omega (arith, h))
counted_total known (e ∷ es) h = sum_total known (e ∷ es)

-- edges whose targets are known
pub ways_local : (a b : List (List Tail)) (k : ℕ) (es : List Edge) → Below k es
    → ((i : ℕ) → i < k → get_or a i [] ≡ get_or b i []) → ways_of a es ≡ ways_of b es
ways_local a b k [] below same = refl
ways_local a b k (e ∷ es) below same =
    rw (same e.target.0 below.0, ways_local a b k es below.1 same) refl

pub total_local : (a b : List ℕ) (k : ℕ) (es : List Edge) → Below k es
    → ((i : ℕ) → i < k → get_or a i 0 ≡ get_or b i 0) → total_count a es ≡ total_count b es
total_local a b k [] below same = refl
total_local a b k (e ∷ es) below same =
    rw (same e.target.0 below.0, total_local a b k es below.1 same) refl

pub counted_from_local : (a b : List ℕ) (k sofar : ℕ) (es : List Edge) → Below k es
    → ((i : ℕ) → i < k → get_or a i 0 ≡ get_or b i 0) → CountedFrom a sofar es
    → CountedFrom b sofar es
counted_from_local a b k sofar [] below same h = tt
counted_from_local a b k sofar (e ∷ es) below same h = (
  h.0,
  subst (λ (n : ℕ). CountedFrom b (sofar + n) es) (same e.target.0 below.0)
      (counted_from_local a b k (sofar + get_or a e.target.0 0) es below.1 same h.1),
)

-- one edge more
pub ways_push : (known : List (List Tail)) (es : List Edge) (e : Edge)
    → ways_of known (es ++ e ∷ []) ≡ ways_of known es ++ map (along e) (get_or known e.target.0 [])
ways_push known [] e = append-nil (map (along e) (get_or known e.target.0 []))
ways_push known (d ∷ es) e =
    ap (λ (r : List Tail). map (along d) (get_or known d.target.0 []) ++ r) (ways_push known es e)
    ∙ sym (append_assoc (map (along d) (get_or known d.target.0 [])) (ways_of known es)
    (map (along e) (get_or known e.target.0 [])))

pub total_push : (known : List ℕ) (es : List Edge) (e : Edge)
    → total_count known (es ++ e ∷ []) ≡ total_count known es + get_or known e.target.0 0
total_push known [] e = omega (arith)
total_push known (d ∷ es) e = let ih = total_push known es e in omega (arith, ih)

pub counted_from_push : (known : List ℕ) (sofar : ℕ) (es : List Edge) (e : Edge)
    → CountedFrom known sofar es → e.before ≡ sofar + total_count known es
    → CountedFrom known sofar (es ++ e ∷ [])
counted_from_push known sofar [] e h b = (omega (arith, b), tt)
counted_from_push known sofar (d ∷ es) e h b =
    (h.0, counted_from_push known (sofar + get_or known d.target.0 0) es e h.1 (omega (arith, b)))

pub rises_push : (es : List Edge) (e : Edge) (l : ℕ) → RisesTo es e.label → e.label < l
    → RisesTo (es ++ e ∷ []) l
rises_push [] e l h k = k
rises_push (d ∷ []) e l h k = (h, k)
rises_push (c ∷ d ∷ es) e l h k = (h.0, rises_push (d ∷ es) e l h.1 k)

pub rising_push : (es : List Edge) (e : Edge) → RisesTo es e.label → Rising (es ++ e ∷ [])
rising_push [] e h = tt
rising_push (d ∷ []) e h = (h, tt)
rising_push (c ∷ d ∷ es) e h = (h.0, rising_push (d ∷ es) e h.1)

pub all_push : (P : Edge → Type 0) (es : List Edge) (e : Edge) → AllByRecursion P es → P e
    → AllByRecursion P (es ++ e ∷ [])
all_push P [] e all p = (p, tt)
all_push P (d ∷ es) e all p = (all.0, all_push P es e all.1 p)

pub all_map : (P Q : Edge → Type 0) (es : List Edge) → ((e : Edge) → P e → Q e)
    → AllByRecursion P es → AllByRecursion Q es
all_map P Q [] f all = tt
all_map P Q (e ∷ es) f all = (f e all.0, all_map P Q es f all.1)

pub all_both : (P Q R : Edge → Type 0) (es : List Edge) → ((e : Edge) → P e → Q e → R e)
    → AllByRecursion P es → AllByRecursion Q es → AllByRecursion R es
all_both P Q R [] f p q = tt
all_both P Q R (e ∷ es) f p q = (f e p.0 q.0, all_both P Q R es f p.1 q.1)

-- lower costs
pub all_less : (P : Edge → Type 0) (base : ℕ) (es : List Edge)
    → AllByRecursion (λ (e : Edge). P (lowered_arc base e)) es
    → AllByRecursion P (map (lowered_arc base) es)
all_less P base [] all = tt
all_less P base (e ∷ es) all = (all.0, all_less P base es all.1)

pub targets_less : {A : Type 0} (f : ℕ → A → A) (base : ℕ) (es : List Edge) (done : A)
    → for_targets f (map (lowered_arc base) es) done ≡ for_targets f es done
targets_less f base [] done = refl
targets_less f base (e ∷ es) done = targets_less f base es (f e.target.0 done)

pub rising_less : (base : ℕ) (es : List Edge) → Rising es → Rising (map (lowered_arc base) es)
rising_less base [] h = tt
rising_less base (e ∷ []) h = tt
rising_less base (e ∷ d ∷ es) h = (h.0, rising_less base (d ∷ es) h.1)

pub counted_from_less : (known : List ℕ) (sofar base : ℕ) (es : List Edge)
    → CountedFrom known sofar es → CountedFrom known sofar (map (lowered_arc base) es)
counted_from_less known sofar base [] h = tt
counted_from_less known sofar base (e ∷ es) h =
    (h.0, counted_from_less known (sofar + get_or known e.target.0 0) base es h.1)

pub total_less : (known : List ℕ) (base : ℕ) (es : List Edge)
    → total_count known (map (lowered_arc base) es) ≡ total_count known es
total_less known base [] = refl
total_less known base (e ∷ es) =
    ap (λ (n : ℕ). get_or known e.target.0 0 + n) (total_less known base es)

plus_along : (base : ℕ) (e : Edge) (ts : List Tail) → base ≤ e.cost
    → map (with_cost base) (map (along (lowered_arc base e)) ts) ≡ map (along e) ts
plus_along base e [] h = refl
plus_along base e (t ∷ ts) h =
    let c : base + (e.cost - base + t.1) ≡ e.cost + t.1 = omega (arith, h) in
    ap (λ (k : ℕ). (e.label ∷ t.0, k) ∷ map (with_cost base) (map (along (lowered_arc base e)) ts))
    c ∙ ap (λ (r : List Tail). (e.label ∷ t.0, e.cost + t.1) ∷ r) (plus_along base e ts h)

-- the lowered edges with the base map what the edges mapped
pub lowered : (known : List (List Tail)) (base : ℕ) (es : List Edge)
    → AllByRecursion (λ (e : Edge). base ≤ e.cost) es
    → map (with_cost base) (ways_of known (map (lowered_arc base) es)) ≡ ways_of known es
lowered known base [] h = refl
lowered known base (e ∷ es) h =
    map-append (with_cost base) (map (along (lowered_arc base e)) (get_or known e.target.0 []))
    (ways_of known (map (lowered_arc base) es))
    ∙ ap (λ (r : List Tail). r ++ map (with_cost base) (ways_of known (map (lowered_arc base) es)))
    (plus_along base e (get_or known e.target.0 []) h.0)
    ∙ ap (λ (r : List Tail). map (along e) (get_or known e.target.0 []) ++ r)
    (lowered known base es h.1)

pub behind_along : (e : Edge) (ts : List Tail)
    → map (with_label e.label) (map (with_cost e.cost) ts) ≡ map (along e) ts
behind_along e [] = refl
behind_along e (t ∷ ts) = ap (λ (r : List Tail). along e t ∷ r) (behind_along e ts)

weaker : (a b : ℕ) (es : List Edge) → a ≤ b → AllByRecursion (λ (e : Edge). b ≤ e.cost) es
    → AllByRecursion (λ (e : Edge). a ≤ e.cost) es
weaker a b [] h all = tt
weaker a b (e ∷ es) h all = (omega (arith, h, all.0), weaker a b es h all.1)

pub least_le : (es : List Edge) → AllByRecursion (λ (e : Edge). least_of es ≤ e.cost) es
least_le [] = tt
least_le (e ∷ []) = (omega (arith), tt)
least_le (e ∷ d ∷ es) = (
  omega (arith),
  weaker (min e.cost (least_of (d ∷ es))) (least_of (d ∷ es)) (d ∷ es) (omega (arith))
      (least_le (d ∷ es)),
)

-- the least cost is some edge's
free_by : (base : ℕ) (e d : Edge) (es : List Edge) → min e.cost (least_of (d ∷ es)) ≤ base
    → (least_of (d ∷ es) ≤ base → is_free (map (lowered_arc base) (d ∷ es)) ≡ true)
    → (base < e.cost) ⊎ (e.cost ≤ base) → is_free (map (lowered_arc base) (e ∷ d ∷ es)) ≡ true
free_by base e d es l rest (inl h) =
    or_right (eqb (e.cost - base) 0) (is_free (map (lowered_arc base) (d ∷ es)))
    (rest (omega (arith, l, h)))
free_by base e d es l rest (inr h) =
    or_left (eqb (e.cost - base) 0) (is_free (map (lowered_arc base) (d ∷ es)))
    (eq-eqb (e.cost - base) 0 (omega (arith, h)))

free_at : (base : ℕ) (es : List Edge) → 0 < length es → least_of es ≤ base
    → is_free (map (lowered_arc base) es) ≡ true
free_at base [] h l = absurd (omega (arith, h))
free_at base (e ∷ []) h l =
    or_left (eqb (e.cost - base) 0) false (eq-eqb (e.cost - base) 0 (omega (arith, l)))
free_at base (e ∷ d ∷ es) h l =
    free_by base e d es l (λ k. free_at base (d ∷ es) (omega arith) k) (cases_lt base e.cost)

pub free_least : (es : List Edge) → 0 < length es
    → is_free (map (lowered_arc (least_of es)) es) ≡ true
free_least es h = free_at (least_of es) es h (omega arith)

-- the greatest of lowered edges
pub greatest_le : (f : Edge → ℕ) (base most : ℕ) (es : List Edge) → base ≤ most
    → AllByRecursion (λ (e : Edge). base + f e ≤ most) es → base + greatest f es ≤ most
greatest_le f base most [] h all = omega (arith, h)
greatest_le f base most (e ∷ es) h all =
    let ih = greatest_le f base most es h all.1 in omega (arith, ih, all.0)

-- the nodes of the open path
pub open_push : (known : List (List Tail)) (fs : List Frame) (f : Frame) (inner : List Tail)
    → paths_under known (fs ++ f ∷ []) inner
    ≡ paths_under known fs (ways_of known f.edges ++ map (with_label f.label) inner)
open_push known [] f inner = refl
open_push known (g ∷ fs) f inner =
    ap (λ (r : List Tail). ways_of known g.edges ++ map (with_label g.label) r)
    (open_push known fs f inner)

pub open_local : (a b : List (List Tail)) (k : ℕ) (fs : List Frame) (inner : List Tail)
    → AllByRecursion (λ (f : Frame). Below k f.edges) fs
    → ((i : ℕ) → i < k → get_or a i [] ≡ get_or b i [])
    → paths_under a fs inner ≡ paths_under b fs inner
open_local a b k [] inner below same = refl
open_local a b k (f ∷ fs) inner below same =
    ap (λ (r : List Tail). r ++ map (with_label f.label) (paths_under a fs inner))
    (ways_local a b k f.edges below.0 same)
    ∙ ap (λ (r : List Tail). ways_of b f.edges ++ map (with_label f.label) r)
    (open_local a b k fs inner below.1 same)

pub frames_push : (ns : List (List Edge)) (depth : ℕ) (fs : List Frame) (f : Frame)
    → AreFrames ns depth fs → IsFrame ns (depth + length fs) f → AreFrames ns depth (fs ++ f ∷ [])
frames_push ns depth [] f all one = (subst (λ (d : ℕ). IsFrame ns d f) (omega arith) one, tt)
frames_push ns depth (g ∷ fs) f all one = (
  all.0,
  frames_push ns (depth + 1) fs f all.1
      (subst (λ (d : ℕ). IsFrame ns d f) (omega arith) one),
)

pub frames_front : (ns : List (List Edge)) (depth : ℕ) (fs : List Frame) (f : Frame)
    → AreFrames ns depth (fs ++ f ∷ []) → AreFrames ns depth fs
frames_front ns depth [] f all = tt
frames_front ns depth (g ∷ fs) f all = (all.0, frames_front ns (depth + 1) fs f all.1)

pub frames_last : (ns : List (List Edge)) (depth : ℕ) (fs : List Frame) (f : Frame)
    → AreFrames ns depth (fs ++ f ∷ []) → IsFrame ns (depth + length fs) f
frames_last ns depth [] f all = subst (λ (d : ℕ). IsFrame ns d f) (omega arith) all.0
frames_last ns depth (g ∷ fs) f all =
    subst (λ (d : ℕ). IsFrame ns d f) (omega arith) (frames_last ns (depth + 1) fs f all.1)
