-- Where the two halvings of the index end, the documents with the id lie between.
use Rattle.std.proofs.Common.{◌≡◌, ◌≤◌, ◌<◌, ◌-◌, ℕ, zero, suc, true, false, not}
use Rattle.std.proofs.Common.{inl, inr, Ordering, List, [], ◌∷◌, length, map}
use Rattle.std.proofs.Common.{take, drop, get_or, refl, sym, ap, ◌∙◌, subst, arith}
use Rattle.std.specs.Prelude.{bytes_eq}
use Rattle.std.specs.Cmp.Lexicographic.{slice_cmp, bytes_decides}
use Rattle.std.specs.Ordering.{nat_cmp, is_lt, ordering_reverse}
use Rattle.std.specs.declared.cmp.Ordering.TheVariants.{Less, Equal, Greater}
use Rattle.std.specs.FinMap.{nat_cmp-IsAntisymmetric, slice_cmp-IsAntisymmetric}
use Rattle.std.proofs.lemmas.Cmp.{nat_list_cmp_total}
use Rattle.std.proofs.lemmas.List.{length-map, drop-map, take-map}
use Rattle.std.proofs.lemmas.Bool.{cases_Bool}
use Rattle.sg_base.specs.Ranking.{in_order}
use Rattle.sg_base.proofs.InOrderLemmas.{filter-in_order}
use Rattle.sg_paths.specs.Operations.{PlainNumbered}
use Rattle.seg_table.specs.declared.finding.Reach.{Reach}
use Rattle.seg_table.specs.declared.finding.Reach.TheVariants.{Before, Through}
use Rattle.seg_table.specs.Ids.{IdPlace, id_cmp, id_cmp_total, placed_from, places_from}
use Rattle.seg_table.specs.Ids.{id_index, id_of, is_within}
use Rattle.seg_table.proofs.OrderLemmas.{id_cmp_exact, is_before, strict, not_itself, clash, le_is}
use Rattle.seg_table.proofs.IndexLemmas.{nowhere, id_at_index, place_below, falls}
use Rattle.seg_table.proofs.BetweenLemmas.{between}
use Rattle.seg_table.proofs.IdLemmas.{rises_placed, map_placed}

-- tests of ids
unlike : (x q : List ℕ) → ((x ≡ q) → ⊥) → bytes_eq x q ≡ false
unlike x q h = elim (cases_Bool (bytes_eq x q)) [
  | inl same ↦ absurd (h ((bytes_decides x q).0 same))
  | inr other ↦ other
]

before_unlike : (x q : List ℕ) → is_before x q ≡ true → bytes_eq x q ≡ false
before_unlike x q h = unlike x q (λ e. clash (sym h ∙ ap (λ z. is_before z q) e ∙ not_itself q))

behind_unlike : (x q : List ℕ) → not (is_before q x) ≡ false → bytes_eq x q ≡ false
behind_unlike x q h = unlike x q
    (λ e. clash (ap not (sym (ap (λ z. is_before q z) e ∙ not_itself q)) ∙ h))

neither_by : (x q : List ℕ) (o : Ordering) → slice_cmp nat_cmp x q ≡ o → is_before x q ≡ false
    → not (is_before q x) ≡ true → bytes_eq x q ≡ true
neither_by x q Less is a b = clash (sym (ap is_lt is) ∙ a)
neither_by x q Equal is a b = (bytes_decides x q).1
    (slice_cmp-IsAntisymmetric nat_cmp-IsAntisymmetric x q is)
neither_by x q Greater is a b =
    let back : slice_cmp nat_cmp q x ≡ Less =
    nat_list_cmp_total.antisymm q x ∙ ap ordering_reverse is in
    clash (sym b ∙ ap (λ o. not (is_lt o)) back)

-- where the two halvings end
pub run_of : (docs : List PlainNumbered) (q : List ℕ) (lo hi : ℕ) → lo ≤ length (id_index docs)
    → hi ≤ length (id_index docs)
    → ((k : ℕ) → k < lo → is_within Before q (id_of docs (get_or (id_index docs) k 0)) ≡ true)
    → ((k : ℕ) → lo ≤ k → k < length (id_index docs)
    → is_within Before q (id_of docs (get_or (id_index docs) k 0)) ≡ false)
    → ((k : ℕ) → k < hi → is_within Through q (id_of docs (get_or (id_index docs) k 0)) ≡ true)
    → ((k : ℕ) → hi ≤ k → k < length (id_index docs)
    → is_within Through q (id_of docs (get_or (id_index docs) k 0)) ≡ false)
    → lo ≤ hi → take (hi - lo) (drop lo (id_index docs))
    ≡ places_from 0 (λ d. bytes_eq d.document.id q) docs
run_of docs q lo hi a b l1 l2 h1 h2 order =
    let s = in_order id_cmp (placed_from 0 docs) in
    let m = length-map s (λ (p : IdPlace). p.place) in
    let id_is = λ (k : ℕ) (d : IdPlace) (h : k < length s). place_any docs k d h in
    ap (λ z. take (hi - lo) z) (drop-map (λ (p : IdPlace). p.place) lo s)
    ∙ take-map (λ (p : IdPlace). p.place) (hi - lo) (drop lo s)
    ∙ ap (λ z. map (λ (p : IdPlace). p.place) z)
    (sym (between (λ p. bytes_eq p.id q) s lo hi order (omega (arith, b, m))
    (λ k d h. ap (λ z. bytes_eq z q) (id_is k d (omega (arith, h, a, m)))
    ∙ before_unlike (id_of docs (get_or (id_index docs) k 0)) q (l1 k h))
    (λ k d g h. ap (λ z. bytes_eq z q) (id_is k d (omega (arith, h, b, m)))
    ∙ neither_by (id_of docs (get_or (id_index docs) k 0)) q _ refl (l2 k g (omega (arith, h, b)))
    (sym (le_is (id_of docs (get_or (id_index docs) k 0)) q) ∙ h1 k h))
    (λ k d g h. ap (λ z. bytes_eq z q) (id_is k d h)
    ∙ behind_unlike (id_of docs (get_or (id_index docs) k 0)) q
    (sym (le_is (id_of docs (get_or (id_index docs) k 0)) q) ∙ h2 k g (omega (arith, h, m))))))
    ∙ ap (λ z. map (λ (p : IdPlace). p.place) z)
    (filter-in_order id_cmp id_cmp_total id_cmp_exact (λ p. bytes_eq p.id q)
    (placed_from 0 docs) (rises_placed q 0 docs))
    ∙ map_placed q 0 docs
  where
    get_any : {X : Type 0} (xs : List X) (k : ℕ) (d e : X) → k < length xs
        → get_or xs k d ≡ get_or xs k e
    get_any [] k d e h = absurd (omega (arith, h))
    get_any (x ∷ xs) zero d e h = refl
    get_any (x ∷ xs) (suc k) d e h = get_any xs k d e (omega (arith, h))

    place_any : (docs : List PlainNumbered) (k : ℕ) (d : IdPlace)
        → k < length (in_order id_cmp (placed_from 0 docs))
        → (get_or (in_order id_cmp (placed_from 0 docs)) k d).id
        ≡ id_of docs (get_or (id_index docs) k 0)
    place_any docs k d h =
        let s = in_order id_cmp (placed_from 0 docs) in
        let m = length-map s (λ (p : IdPlace). p.place) in
        ap (λ (p : IdPlace). p.id) (get_any s k d nowhere h)
        ∙ sym (id_at_index docs k (omega (arith, h, m)))

not_both : (q x : List ℕ) → is_within Before q x ≡ true → is_within Through q x ≡ false → ⊥
not_both q x a b = clash (sym (ap not (strict.one_way x q a)) ∙ (sym (le_is x q) ∙ b))

in_turn_by : (docs : List PlainNumbered) (q : List ℕ) (lo hi : ℕ) → lo ≤ length (id_index docs)
    → ((k : ℕ) → k < lo → is_within Before q (id_of docs (get_or (id_index docs) k 0)) ≡ true)
    → ((k : ℕ) → hi ≤ k → k < length (id_index docs)
    → is_within Through q (id_of docs (get_or (id_index docs) k 0)) ≡ false)
    → (hi < lo → ⊥) → lo ≤ hi
in_turn_by docs q lo hi a l1 h2 h = omega (arith, h)

-- the first halving ends no later than the second
pub in_turn : (docs : List PlainNumbered) (q : List ℕ) (lo hi : ℕ) → lo ≤ length (id_index docs)
    → ((k : ℕ) → k < lo → is_within Before q (id_of docs (get_or (id_index docs) k 0)) ≡ true)
    → ((k : ℕ) → hi ≤ k → k < length (id_index docs)
    → is_within Through q (id_of docs (get_or (id_index docs) k 0)) ≡ false)
    → lo ≤ hi
in_turn docs q lo hi a l1 h2 =
    in_turn_by docs q lo hi a l1 h2
    (λ less. not_both q (id_of docs (get_or (id_index docs) hi 0)) (l1 hi less)
    (h2 hi (omega arith) (omega (arith, less, a))))

-- the same, where the code has the documents and the index
abbrev pub Falls : Reach → List ℕ → List PlainNumbered → List ℕ → Type 0
Falls reach q ds ids = (i j : ℕ) → i ≤ j → j < length ids
    → is_within reach q (id_of ds (get_or ids j 0)) ≡ true
    → is_within reach q (id_of ds (get_or ids i 0)) ≡ true

pub falls_in : (docs ds : List PlainNumbered) (ids : List ℕ) (reach : Reach) (q : List ℕ)
    → ds ≡ docs → ids ≡ id_index docs → Falls reach q ds ids
falls_in docs ds ids reach q d e =
    subst (λ z. Falls reach q ds z) (sym e)
    (subst (λ z. Falls reach q z (id_index docs)) (sym d) (falls docs reach q))

abbrev pub AreIn : List PlainNumbered → List ℕ → Type 0
AreIn ds ids = (k : ℕ) → k < length ids → get_or ids k 0 < length ds

pub places_in : (docs ds : List PlainNumbered) (ids : List ℕ) → ds ≡ docs → ids ≡ id_index docs
    → AreIn ds ids
places_in docs ds ids d e =
    subst (λ z. AreIn ds z) (sym e)
    (subst (λ z. AreIn z (id_index docs)) (sym d) (place_below docs))

abbrev pub Below : Reach → List ℕ → List PlainNumbered → List ℕ → ℕ → Type 0
Below reach q ds ids n = (k : ℕ) → k < n → is_within reach q (id_of ds (get_or ids k 0)) ≡ true

abbrev pub From : Reach → List ℕ → List PlainNumbered → List ℕ → ℕ → Type 0
From reach q ds ids n = (k : ℕ) → n ≤ k → k < length ids
    → is_within reach q (id_of ds (get_or ids k 0)) ≡ false

below_of : (docs ds : List PlainNumbered) (ids : List ℕ) (reach : Reach) (q : List ℕ) (n : ℕ)
    → ds ≡ docs → ids ≡ id_index docs
    → Below reach q ds ids n → Below reach q docs (id_index docs) n
below_of docs ds ids reach q n d e h =
    subst (λ z. Below reach q docs z n) e (subst (λ z. Below reach q z ids n) d h)

from_of : (docs ds : List PlainNumbered) (ids : List ℕ) (reach : Reach) (q : List ℕ) (n : ℕ)
    → ds ≡ docs → ids ≡ id_index docs
    → From reach q ds ids n → From reach q docs (id_index docs) n
from_of docs ds ids reach q n d e h =
    subst (λ z. From reach q docs z n) e (subst (λ z. From reach q z ids n) d h)

pub in_turn_in : (docs ds : List PlainNumbered) (ids : List ℕ) (q : List ℕ) (lo hi : ℕ) → ds ≡ docs
    → ids ≡ id_index docs
    → lo ≤ length ids → Below Before q ds ids lo → From Through q ds ids hi → lo ≤ hi
in_turn_in docs ds ids q lo hi d e a l h =
    in_turn docs q lo hi (subst (λ (z : List ℕ). lo ≤ length z) e a)
    (below_of docs ds ids Before q lo d e l) (from_of docs ds ids Through q hi d e h)

pub run_in : (docs ds : List PlainNumbered) (ids : List ℕ) (q : List ℕ) (lo hi : ℕ) → ds ≡ docs
    → ids ≡ id_index docs
    → lo ≤ length ids → hi ≤ length ids → Below Before q ds ids lo → From Before q ds ids lo
    → Below Through q ds ids hi → From Through q ds ids hi
    → take (hi - lo) (drop lo ids) ≡ places_from 0 (λ d. bytes_eq d.document.id q) docs
run_in docs ds ids q lo hi d e a b l1 l2 h1 h2 =
    ap (λ z. take (hi - lo) (drop lo z)) e
    ∙ run_of docs q lo hi (subst (λ (z : List ℕ). lo ≤ length z) e a)
    (subst (λ (z : List ℕ). hi ≤ length z) e b)
    (below_of docs ds ids Before q lo d e l1) (from_of docs ds ids Before q lo d e l2)
    (below_of docs ds ids Through q hi d e h1) (from_of docs ds ids Through q hi d e h2)
    (in_turn_in docs ds ids q lo hi d e a l1 h2)
