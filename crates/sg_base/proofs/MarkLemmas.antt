-- Marks of rows: their order, and that with a row its predecessors precede.
use Rattle.std.proofs.Common.{◌≡◌, Bool, true, false, refl, sym, ◌∙◌}
use Rattle.std.specs.declared.cmp.Ordering.{Ordering}
use Rattle.std.specs.declared.cmp.Ordering.TheVariants.{Less, Equal, Greater}
use Rattle.std.specs.Cmp.{IsStrictWeakOrder}
use Rattle.std.specs.Ordering.{is_lt, nat_cmp, ordering_then}
use Rattle.std.proofs.lemmas.List.MinMax.{ranks_by}
use Rattle.sg_base.specs.declared.rank.Rank.{Rank}
use Rattle.sg_base.specs.Cuts.{Mark, PlainCut, mark_cmp, mark_cmp_total}
use Rattle.sg_base.specs.Cuts.{row_mark, cut_mark, precedes}
use Rattle.sg_base.proofs.Orders.{at_most_below}
use Rattle.sg_base.proofs.RankingLemmas.{rank_lt}

abbrev pub mark_lt : Mark → Mark → Bool
mark_lt x y = is_lt (mark_cmp x y)

pub marks_ordered : IsStrictWeakOrder mark_lt
marks_ordered = ranks_by mark_cmp_total (λ (m : Mark). m)

mark_decides : (o s p : Ordering) → is_lt o ≡ true
    → is_lt (ordering_then (ordering_then o s) p) ≡ true
mark_decides Less s p h = refl
mark_decides Equal s p h = cc
mark_decides Greater s p h = cc

no_true : (b : Bool) → (b ≡ true → ⊥) → b ≡ false
no_true true f = absurd (f refl)
no_true false f = refl

-- a row that isn't after another has no later mark
pub mark-at_most : (x y : Rank) → rank_lt y x ≡ false
    → mark_lt (row_mark y) (row_mark x) ≡ false
mark-at_most x y h =
    no_true (mark_lt (row_mark y) (row_mark x)) (λ e.
    let before : rank_lt y x ≡ true =
    mark_decides (mark_cmp (row_mark y) (row_mark x)) (nat_cmp y.seq x.seq)
    (nat_cmp y.place x.place) e in
    let never : true ≡ false = sym before ∙ h in cc)

-- with a row its predecessors pass
abbrev pub GoesDown : (Rank → Bool) → Type 0
GoesDown passes = (x y : Rank) → rank_lt y x ≡ false → passes y ≡ true → passes x ≡ true

pub precedes-down : (cut : PlainCut) → GoesDown (precedes cut)
precedes-down cut x y h p =
    at_most_below mark_lt marks_ordered (row_mark x) (row_mark y) (cut_mark cut)
    (mark-at_most x y h) p
