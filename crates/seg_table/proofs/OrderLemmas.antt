-- The order of ids and places.
use Rattle.std.proofs.Common.{◌≡◌, ℕ, Bool, true, false, not}
use Rattle.std.proofs.Common.{Ordering, List}
use Rattle.std.proofs.Common.{refl, sym, ap, ◌∙◌}
use Rattle.std.specs.Cmp.Lexicographic.{slice_cmp}
use Rattle.std.specs.Cmp.{IsStrictWeakOrder}
use Rattle.std.specs.Ordering.{nat_cmp, is_lt, is_le, ordering_then, ordering_reverse}
use Rattle.std.specs.declared.cmp.Ordering.TheVariants.{Less, Equal, Greater}
use Rattle.std.specs.FinMap.{nat_cmp-IsAntisymmetric, slice_cmp-IsAntisymmetric}
use Rattle.std.proofs.lemmas.Cmp.{nat_list_cmp_total, tied_itself}
use Rattle.std.proofs.lemmas.List.Sorted.{ranks_by}
use Rattle.seg_table.specs.Ids.{IdPlace, id_cmp}

each_ties : (o p : Ordering) → ordering_then o p ≡ Equal → (o ≡ Equal) × (p ≡ Equal)
each_ties Less p h = cc
each_ties Equal p h = (refl, h)
each_ties Greater p h = cc

pub id_cmp_exact : (x y : IdPlace) → id_cmp x y ≡ Equal → x ≡ y
id_cmp_exact x y ties =
    let a = each_ties _ (nat_cmp x.place y.place) ties in
    let id : x.id ≡ y.id = slice_cmp-IsAntisymmetric nat_cmp-IsAntisymmetric x.id y.id a.0 in
    let place : x.place ≡ y.place = nat_cmp-IsAntisymmetric x.place y.place a.1 in
    ap (λ z. (let p : IdPlace = record { id = z; place = x.place } in p)) id
    ∙ ap (λ z. (let p : IdPlace = record { id = y.id; place = z } in p)) place

-- ids in the order of their bytes
abbrev pub is_before : List ℕ → List ℕ → Bool
is_before x y = is_lt (slice_cmp nat_cmp x y)

pub strict : IsStrictWeakOrder (λ x y. is_before x y)
strict = ranks_by nat_list_cmp_total (λ (x : List ℕ). x)

pub not_itself : (x : List ℕ) → is_before x x ≡ false
not_itself x = ap is_lt (tied_itself nat_list_cmp_total x)

pub clash : {A : Type 0} → true ≡ false → A
clash e = absurd cc

le_of : (o : Ordering) → is_le o ≡ not (is_lt (ordering_reverse o))
le_of Less = refl
le_of Equal = refl
le_of Greater = refl

pub le_is : (x q : List ℕ) → is_le (slice_cmp nat_cmp x q) ≡ not (is_before q x)
le_is x q =
    le_of (slice_cmp nat_cmp x q)
    ∙ ap (λ o. not (is_lt o)) (sym (nat_list_cmp_total.antisymm q x))
