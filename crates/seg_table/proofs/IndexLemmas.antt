-- The index by ids: places of documents, with ids that never fall.
use Rattle.std.proofs.Common.{◌≡◌, ◌≤◌, ◌<◌, ◌+◌, ℕ, zero, suc, Bool, true, false, not}
use Rattle.std.proofs.Common.{◌⊎◌, inl, inr, Ordering, List, [], ◌∷◌, length, map}
use Rattle.std.proofs.Common.{get_or, refl, sym, ap, ◌∙◌, subst, arith, zero-add}
use Rattle.std.proofs.Common.{add-zero}
use Rattle.std.specs.List.{AllByRecursion}
use Rattle.std.specs.Cmp.Lexicographic.{slice_cmp}
use Rattle.std.specs.Ordering.{nat_cmp, is_lt, ordering_then}
use Rattle.std.specs.declared.cmp.Ordering.TheVariants.{Less, Equal, Greater}
use Rattle.std.proofs.lemmas.List.{length-map}
use Rattle.std.proofs.lemmas.List.Elements.{All-from_recursion, All-get_or}
use Rattle.std.proofs.Math.ListN.{get_or-map}
use Rattle.std.proofs.lemmas.Bool.{cases_eq}
use Rattle.sg_base.specs.Ranking.{in_order}
use Rattle.sg_base.proofs.Sorting.{rises-in_order, Rises}
use Rattle.sg_base.proofs.InOrderLemmas.{all-in_order}
use Rattle.sg_paths.specs.Operations.{PlainNumbered}
use Rattle.seg_table.specs.declared.finding.Reach.{Reach}
use Rattle.seg_table.specs.declared.finding.Reach.TheVariants.{Before, Through}
use Rattle.seg_table.specs.Ids.{IdPlace, id_cmp, id_cmp_total, placed_from}
use Rattle.seg_table.specs.Ids.{id_index, id_of, is_within}
use Rattle.seg_table.proofs.OrderLemmas.{id_cmp_exact, is_before, strict, not_itself, clash, le_is}

each_at : {X : Type 0} (P : X → Type 0) (xs : List X) (k : ℕ) (d : X) → AllByRecursion P xs
    → k < length xs → P (get_or xs k d)
each_at P xs k d a h = All-get_or P xs k d h (All-from_recursion P xs a)

first_of_then : (o p : Ordering) → is_lt (ordering_then o p) ≡ false → is_lt o ≡ false
first_of_then Less p h = h
first_of_then Equal p h = refl
first_of_then Greater p h = refl

-- each has the id at its place
placed_ok : (g : ℕ → List ℕ) (all n : ℕ) (ds : List PlainNumbered) → n + length ds ≡ all
    → ((k : ℕ) → k < length ds → g (n + k) ≡ get_or (map (λ d. d.document.id) ds) k [])
    → AllByRecursion (λ p. (p.id ≡ g p.place) × (p.place < all)) (placed_from n ds)
placed_ok g all n [] e h = tt
placed_ok g all n (d ∷ ds) e h = (
  (sym (ap g (sym (add-zero n)) ∙ h 0 (omega arith)), omega (arith, e)),
  placed_ok g all (n + 1) ds (omega (arith, e))
      (λ k l. ap g (omega arith) ∙ h (suc k) (omega (arith, l))),
)

sorted : List PlainNumbered → List IdPlace
sorted docs = in_order id_cmp (placed_from 0 docs)

abbrev pub nowhere : IdPlace
nowhere = record { id = []; place = 0 }

sorted_ok : (docs : List PlainNumbered)
    → AllByRecursion (λ p. (p.id ≡ id_of docs p.place) × (p.place < length docs))
    (in_order id_cmp (placed_from 0 docs))
sorted_ok docs = all-in_order id_cmp (λ p. (p.id ≡ id_of docs p.place) × (p.place < length docs))
    (placed_from 0 docs)
    (placed_ok (id_of docs) (length docs) 0 docs (zero-add (length docs))
    (λ k l. ap (id_of docs) (zero-add k)))

pub place_below : (docs : List PlainNumbered) (k : ℕ) → k < length (id_index docs)
    → get_or (id_index docs) k 0 < length docs
place_below docs k h =
    let s = in_order id_cmp (placed_from 0 docs) in
    let l = length-map s (λ (p : IdPlace). p.place) in
    let e : get_or (id_index docs) k 0 ≡ (get_or s k nowhere).place =
    get_or-map (λ (p : IdPlace). p.place) s k nowhere in
    let a = each_at (λ p. (p.id ≡ id_of docs p.place) × (p.place < length docs)) s k nowhere
    (sorted_ok docs) (omega (arith, l, h)) in
    subst (λ n. n < length docs) (sym e) a.1

pub id_at_index : (docs : List PlainNumbered) (k : ℕ) → k < length (id_index docs)
    → id_of docs (get_or (id_index docs) k 0)
    ≡ (get_or (in_order id_cmp (placed_from 0 docs)) k nowhere).id
id_at_index docs k h =
    let s = in_order id_cmp (placed_from 0 docs) in
    let l = length-map s (λ (p : IdPlace). p.place) in
    let e : get_or (id_index docs) k 0 ≡ (get_or s k nowhere).place =
    get_or-map (λ (p : IdPlace). p.place) s k nowhere in
    let a = each_at (λ p. (p.id ≡ id_of docs p.place) × (p.place < length docs)) s k nowhere
    (sorted_ok docs) (omega (arith, l, h)) in
    ap (id_of docs) e ∙ sym a.0

-- later ids aren't before earlier ones
rises_at : (xs : List IdPlace) (i j : ℕ) (d : IdPlace) → Rises id_cmp id_cmp_total id_cmp_exact xs
    → i < j → j < length xs
    → is_lt (id_cmp (get_or xs j d) (get_or xs i d)) ≡ false
rises_at [] i j d r l h = absurd (omega (arith, h))
rises_at (x ∷ xs) i zero d r l h = absurd (omega (arith, l))
rises_at (x ∷ xs) zero (suc j) d r l h =
    each_at (λ y. is_lt (id_cmp y x) ≡ false) xs j d r.0 (omega (arith, h))
rises_at (x ∷ xs) (suc i) (suc j) d r l h =
    rises_at xs i j d r.1 (omega (arith, l)) (omega (arith, h))

ids_rise_by : (xs : List IdPlace) (i j : ℕ) → Rises id_cmp id_cmp_total id_cmp_exact xs → i ≤ j
    → j < length xs
    → (i ≡ j) ⊎ (i ≡ j → ⊥) → is_before (get_or xs j nowhere).id (get_or xs i nowhere).id ≡ false
ids_rise_by xs i j r l h (inl e) =
    subst (λ k. is_before (get_or xs j nowhere).id (get_or xs k nowhere).id ≡ false) (sym e)
    (not_itself (get_or xs j nowhere).id)
ids_rise_by xs i j r l h (inr other) =
    first_of_then (slice_cmp nat_cmp (get_or xs j nowhere).id (get_or xs i nowhere).id)
    (nat_cmp (get_or xs j nowhere).place (get_or xs i nowhere).place)
    (rises_at xs i j nowhere r (omega (arith, l, other)) h)

ids_rise : (docs : List PlainNumbered) (i j : ℕ) → i ≤ j → j < length (id_index docs)
    → is_before (id_of docs (get_or (id_index docs) j 0)) (id_of docs (get_or (id_index docs) i 0))
    ≡ false
ids_rise docs i j l h =
    let s = in_order id_cmp (placed_from 0 docs) in
    let m = length-map s (λ (p : IdPlace). p.place) in
    ap (λ z. is_before z (id_of docs (get_or (id_index docs) i 0))) (id_at_index docs j h)
    ∙ ap (λ z. is_before (get_or s j nowhere).id z) (id_at_index docs i (omega (arith, l, h)))
    ∙ ids_rise_by s i j (rises-in_order id_cmp id_cmp_total id_cmp_exact (placed_from 0 docs)) l
    (omega (arith, m, h)) (cases_eq i j)

-- what precedes an id, is a front of the index
falls_by : (reach : Reach) (q x y : List ℕ) → is_before y x ≡ false → (b : Bool) → is_before x q ≡ b
    → is_within reach q y ≡ true → is_within reach q x ≡ true
falls_by Through q x y up b is h =
    le_is x q
    ∙ ap not (strict.chain q y x (not_true (is_before q y) (sym (le_is y q) ∙ h)) up)
  where
    not_true : (b : Bool) → not b ≡ true → b ≡ false
    not_true true h = clash (sym h)
    not_true false h = refl
falls_by Before q x y up true is h = is
falls_by Before q x y up false is h = clash (sym h ∙ strict.chain y x q up is)

pub falls : (docs : List PlainNumbered) (reach : Reach) (q : List ℕ) (i j : ℕ) → i ≤ j
    → j < length (id_index docs)
    → is_within reach q (id_of docs (get_or (id_index docs) j 0)) ≡ true
    → is_within reach q (id_of docs (get_or (id_index docs) i 0)) ≡ true
falls docs reach q i j l h t =
    falls_by reach q (id_of docs (get_or (id_index docs) i 0))
    (id_of docs (get_or (id_index docs) j 0)) (ids_rise docs i j l h)
    (is_before (id_of docs (get_or (id_index docs) i 0)) q) refl t
