-- Counting owners counts the paths of each document.
use Rattle.std.proofs.Common.{◌≡◌, ◌≤◌, ◌<◌, ◌+◌, ℕ, zero, suc, Bool, true, false, cond}
use Rattle.std.proofs.Common.{nat_eq}
use Rattle.std.proofs.Common.{List, [], ◌∷◌, ◌++◌, length, map, set, get_or, replicate, refl, sym}
use Rattle.std.proofs.Common.{ap, ◌∙◌, subst, arith, zero-add, add-zero, eq-eqb}
use Rattle.std.specs.List.{All, AllByRecursion}
use Rattle.std.proofs.lemmas.List.Elements.{All-from_recursion}
use Rattle.std.specs.Prelude.{Option, Some, None}
use Rattle.std.proofs.lemmas.Bool.{ne_eqb}
use Rattle.sg_base.specs.Ranking.{in_order}
use Rattle.sg_base.proofs.Sorting.{total_of, total_of-in_order}
use Rattle.sg_paths.specs.Operations.{PlainNumbered}
use Rattle.sg_paths.specs.Paths.{PlainPath, paths}
use Rattle.sg_paths.specs.AllPaths.{Entry, entry_of, path_entries, entry_cmp}
use Rattle.sg_paths.specs.AllPaths.{entry_cmp_total, numbered, number_after, all_paths}
use Rattle.sg_paths.proofs.RiseLemmas.{entry_cmp_exact}
use Rattle.sg_base.proofs.InOrderLemmas.{all-in_order}
use Rattle.std.proofs.lemmas.List.{map-append}
use Rattle.seg_table.specs.declared.owner.Owner.{Owner}
use Rattle.seg_table.specs.Counts.{count_of, counts_from, counts_of}
use Rattle.seg_table.specs.Owners.{owner_of, greatest, most_paths}

abbrev entry_owner : Entry → Owner
entry_owner e = record { doc = e.doc; place = e.place }

owners_numbered : (last : Option (Entry × ℕ)) (es : List Entry)
    → map owner_of (numbered last es) ≡ map entry_owner es
owners_numbered last [] = refl
owners_numbered last (e ∷ es) =
    ap (λ z. entry_owner e ∷ z) (owners_numbered (Some (e, number_after last e)) es)

-- how many owners more
count_more : (i : ℕ) (xs ys : List Owner) → count_of i (xs ++ ys) ≡ count_of i xs + count_of i ys
count_more i [] ys = sym (zero-add (count_of i ys))
count_more i (x ∷ xs) ys = let h = count_more i xs ys in omega (arith, h)

one_of : (i : ℕ) (o : Owner) → o.doc ≡ i → ◌≡◌ {A = ℕ} (cond (nat_eq o.doc i) 1 0) 1
one_of i o e = ap (λ b. cond b 1 0) (eq-eqb o.doc i e)

none_of : (i : ℕ) (o : Owner) → (o.doc ≡ i → ⊥) → ◌≡◌ {A = ℕ} (cond (nat_eq o.doc i) 1 0) 0
none_of i o e = ap (λ b. cond b 1 0) (ne_eqb o.doc i e)

pub count_most : (i : ℕ) (os : List Owner) → count_of i os ≤ length os
count_most i [] = omega arith
count_most i (o ∷ os) = let h = count_most i os in let a =
    at_most (nat_eq o.doc i) in omega (arith, h, a)
  where
    at_most : (b : Bool) → cond b 1 0 ≤ 1
    at_most true = omega arith
    at_most false = omega arith

pub counts_at : (n k : ℕ) (os : List Owner) (i : ℕ) → i < k
    → get_or (counts_from n k os) i 0 ≡ count_of (n + i) os
counts_at n zero os i h = absurd (omega (arith, h))
counts_at n (suc k) os zero h = ap (λ m. count_of m os) (sym (add-zero n))
counts_at n (suc k) os (suc i) h =
    counts_at (n + 1) k os i (omega (arith, h)) ∙ ap (λ m. count_of m os) (omega arith)

pub length_counts : (n k : ℕ) (os : List Owner) → length (counts_from n k os) ≡ k
length_counts n zero os = refl
length_counts n (suc k) os = ap suc (length_counts (n + 1) k os)

-- counts of the same
counts_same : (n k : ℕ) (xs ys : List Owner) → ((i : ℕ) → n ≤ i → count_of i xs ≡ count_of i ys)
    → counts_from n k xs ≡ counts_from n k ys
counts_same n zero xs ys h = refl
counts_same n (suc k) xs ys h =
    ap (λ m. m ∷ counts_from (n + 1) k xs) (h n (omega arith))
    ∙ ap (λ z. count_of n ys ∷ z) (counts_same (n + 1) k xs ys (λ i l. h i (omega (arith, l))))

-- one owner more
pub counts_push : (n k : ℕ) (os : List Owner) (o : Owner) (at : ℕ) → o.doc ≡ n + at → at < k
    → set (counts_from n k os) at (get_or (counts_from n k os) at 0 + 1)
    ≡ counts_from n k (os ++ o ∷ [])
counts_push n zero os o at e h = absurd (omega (arith, h))
counts_push n (suc k) os o zero e h =
    let a = count_more n os (o ∷ []) in
    let b = one_of n o (omega (arith, e)) in
    let here : count_of n os + 1 ≡ count_of n (os ++ o ∷ []) = omega (arith, a, b) in
    ap (λ m. m ∷ counts_from (n + 1) k os) here
    ∙ ap (λ z. count_of n (os ++ o ∷ []) ∷ z) (counts_same (n + 1) k os (os ++ o ∷ []) (λ i l.
    let c = count_more i os (o ∷ []) in let d =
    none_of i o (λ s. omega (arith, s, e, l)) in omega (arith, c, d)))
counts_push n (suc k) os o (suc at) e h =
    let a = count_more n os (o ∷ []) in
    let b = none_of n o (λ s. omega (arith, s, e)) in
    let here : count_of n os ≡ count_of n (os ++ o ∷ []) = omega (arith, a, b) in
    ap (λ m. m ∷ set (counts_from (n + 1) k os) at (get_or (counts_from (n + 1) k os) at 0 + 1))
    here
    ∙ ap (λ z. count_of n (os ++ o ∷ []) ∷ z)
    (counts_push (n + 1) k os o at (omega (arith, e)) (omega (arith, h)))

-- of the paths by document
all_of_one : (i n : ℕ) (ps : List PlainPath) → n ≡ i
    → count_of i (map entry_owner (map (entry_of n) ps)) ≡ length ps
all_of_one i n [] e = refl
all_of_one i n (p ∷ ps) e =
    let h = all_of_one i n ps e in let b =
    one_of i (entry_owner (entry_of n p)) e in omega (arith, h, b)

none_of_one : (i n : ℕ) (ps : List PlainPath) → (n ≡ i → ⊥)
    → count_of i (map entry_owner (map (entry_of n) ps)) ≡ 0
none_of_one i n [] e = refl
none_of_one i n (p ∷ ps) e =
    let h = none_of_one i n ps e in let b =
    none_of i (entry_owner (entry_of n p)) e in omega (arith, h, b)

count_entries : (i n : ℕ) (d : PlainNumbered) (ds : List PlainNumbered)
    → count_of i (map entry_owner (path_entries n (d ∷ ds)))
    ≡ count_of i (map entry_owner (map (entry_of n) (paths d.document))) + count_of i
    (map entry_owner (path_entries (n + 1) ds))
count_entries i n d ds =
    ap (count_of i) (map-append entry_owner (map (entry_of n) (paths d.document))
    (path_entries (n + 1) ds))
    ∙ count_more i (map entry_owner (map (entry_of n) (paths d.document)))
    (map entry_owner (path_entries (n + 1) ds))

none_earlier : (i n : ℕ) (ds : List PlainNumbered) → i < n
    → count_of i (map entry_owner (path_entries n ds)) ≡ 0
none_earlier i n [] l = refl
none_earlier i n (d ∷ ds) l =
    let a = count_entries i n d ds in
    let b = none_of_one i n (paths d.document) (λ e. omega (arith, e, l)) in
    let c = none_earlier i (n + 1) ds (omega (arith, l)) in
    omega (arith, a, b, c)

counts_entries : (n : ℕ) (ds : List PlainNumbered)
    → counts_from n (length ds) (map entry_owner (path_entries n ds))
    ≡ map (λ d. length (paths d.document)) ds
counts_entries n [] = refl
counts_entries n (d ∷ ds) =
    let a = count_entries n n d ds in
    let b = all_of_one n n (paths d.document) refl in
    let c = none_earlier n (n + 1) ds (omega arith) in
    let here : count_of n (map entry_owner (path_entries n (d ∷ ds))) ≡ length (paths d.document) =
    omega (arith, a, b, c) in
    ap (λ m. m ∷ counts_from (n + 1) (length ds) (map entry_owner (path_entries n (d ∷ ds)))) here
    ∙ ap (λ z. length (paths d.document) ∷ z)
    (counts_same (n + 1) (length ds) (map entry_owner (path_entries n (d ∷ ds)))
    (map entry_owner (path_entries (n + 1) ds))
    (λ i l. let p = count_entries i n d ds in let q =
    none_of_one i n (paths d.document) (λ e. omega (arith, e, l)) in omega (arith, p, q))
    ∙ counts_entries (n + 1) ds)

-- sorting keeps the counts
count_total : (i : ℕ) (es : List Entry) → count_of i (map entry_owner es)
    ≡ total_of entry_cmp entry_cmp_total entry_cmp_exact (λ e. cond (nat_eq e.doc i) 1 0) es
count_total i [] = refl
count_total i (e ∷ es) = ap (λ n. cond (nat_eq e.doc i) 1 0 + n) (count_total i es)

count_sorted : (i : ℕ) (es : List Entry)
    → count_of i (map entry_owner (in_order entry_cmp es)) ≡ count_of i (map entry_owner es)
count_sorted i es =
    count_total i (in_order entry_cmp es)
    ∙ total_of-in_order entry_cmp entry_cmp_total entry_cmp_exact (λ e. cond (nat_eq e.doc i) 1 0)
    es
    ∙ sym (count_total i es)

pub counts_all : (docs : List PlainNumbered)
    → counts_of (length docs) (map owner_of (all_paths docs))
    ≡ map (λ d. length (paths d.document)) docs
counts_all docs =
    ap (λ z. counts_from 0 (length docs) z)
    (owners_numbered None (in_order entry_cmp (path_entries 0 docs)))
    ∙ counts_same 0 (length docs) (map entry_owner (in_order entry_cmp (path_entries 0 docs)))
    (map entry_owner (path_entries 0 docs))
    (λ i l. count_sorted i (path_entries 0 docs))
    ∙ counts_entries 0 docs

-- the documents of owners
all_map : {X Y : Type 0} (f : X → Y) (P : Y → Type 0) (xs : List X)
    → AllByRecursion (λ x. P (f x)) xs → AllByRecursion P (map f xs)
all_map f P [] a = tt
all_map f P (x ∷ xs) a = (a.0, all_map f P xs a.1)

all_app : {X : Type 0} (P : X → Type 0) (xs ys : List X) → AllByRecursion P xs → AllByRecursion P ys
    → AllByRecursion P (xs ++ ys)
all_app P [] ys a b = b
all_app P (x ∷ xs) ys a b = (a.0, all_app P xs ys a.1 b)

entries_of_one : (n m : ℕ) (ps : List PlainPath) → n < m
    → AllByRecursion (λ (e : Entry). e.doc < m) (map (entry_of n) ps)
entries_of_one n m [] l = tt
entries_of_one n m (p ∷ ps) l = (l, entries_of_one n m ps l)

docs_below : (n m : ℕ) (ds : List PlainNumbered) → n + length ds ≤ m
    → AllByRecursion (λ (e : Entry). e.doc < m) (path_entries n ds)
docs_below n m [] l = tt
docs_below n m (d ∷ ds) l =
    all_app (λ (e : Entry). e.doc < m) (map (entry_of n) (paths d.document))
    (path_entries (n + 1) ds)
    (entries_of_one n m (paths d.document) (omega (arith, l)))
    (docs_below (n + 1) m ds (omega (arith, l)))

pub owners_below : (docs : List PlainNumbered)
    → AllByRecursion (λ (o : Owner). o.doc < length docs) (map owner_of (all_paths docs))
owners_below docs =
    subst (λ z. AllByRecursion (λ (o : Owner). o.doc < length docs) z)
    (sym (owners_numbered None (in_order entry_cmp (path_entries 0 docs))))
    (all_map entry_owner (λ (o : Owner). o.doc < length docs)
    (in_order entry_cmp (path_entries 0 docs))
    (all-in_order entry_cmp (λ (e : Entry). e.doc < length docs) (path_entries 0 docs)
    (docs_below 0 (length docs) docs (omega arith))))

-- the table's greatest
pub most_counted : (docs : List PlainNumbered) (owners : List Owner) (n : ℕ)
    → owners ≡ map owner_of (all_paths docs) → n ≡ length docs
    → greatest (counts_of n owners) ≡ most_paths docs
most_counted docs owners n o e =
    ap (λ z. greatest (counts_of n z)) o
    ∙ ap (λ k. greatest (counts_of k (map owner_of (all_paths docs)))) e
    ∙ ap greatest (counts_all docs)

pub owners_within : (docs : List PlainNumbered) (owners : List Owner) (n : ℕ)
    → owners ≡ map owner_of (all_paths docs) → n ≡ length docs → All (λ o. o.doc < n) owners
owners_within docs owners n o e =
    All-from_recursion (λ (w : Owner). w.doc < n) owners
    (subst (λ z. AllByRecursion (λ (w : Owner). w.doc < n) z) (sym o)
    (subst (λ k. AllByRecursion (λ (w : Owner). w.doc < k) (map owner_of (all_paths docs))) (sym e)
    (owners_below docs)))

pub counts_none : (n k : ℕ) → counts_from n k [] ≡ replicate k 0
counts_none n zero = refl
counts_none n (suc k) = ap (λ z. 0 ∷ z) (counts_none (n + 1) k)
