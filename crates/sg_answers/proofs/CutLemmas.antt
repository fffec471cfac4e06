-- Truncation points: their order, and the first of several.
use Rattle.std.proofs.Common.{◌≡◌, Bool, true, false, cond, List, [], ◌∷◌, map, Option, Some, None}
use Rattle.std.proofs.Common.{refl, ap, subst, arith, Ordering}
use Rattle.std.specs.Prelude.{Contains}
use Rattle.std.specs.Ordering.{is_lt, ordering_then}
use Rattle.std.specs.declared.cmp.Ordering.TheVariants.{Less, Equal, Greater}
use Rattle.std.specs.Cmp.{IsStrictWeakOrder}
use Rattle.std.specs.List.{AllByRecursion}
use Rattle.std.proofs.lemmas.List.Elements.{Contains-append_right}
use Rattle.std.proofs.lemmas.List.MinMax.{ranks_by}
use Rattle.std.proofs.lemmas.Cmp.{tied_itself}
use Rattle.sg_base.specs.Cuts.{PlainCut, row_mark, cut_mark, precedes}
use Rattle.sg_base.specs.declared.rank.Rank.{Rank}
use Rattle.sg_base.proofs.MarkLemmas.{marks_ordered}
use Rattle.sg_answers.specs.Scans.{sooner}
use Rattle.sg_answers.specs.Reports.{ViewedSegment}
use Rattle.sg_answers.specs.Closing.{cut_cmp, cut_cmp_total, Searched, first_cut}

cuts : IsStrictWeakOrder (λ x y. is_lt (cut_cmp x y))
cuts = ranks_by cut_cmp_total (λ (c : PlainCut). c)

-- what isn't below by two orders in turn isn't below by the first
pub not_by_first : (a b : Ordering) → is_lt (ordering_then a b) ≡ false → is_lt a ≡ false
not_by_first Less b h = h
not_by_first Equal b h = refl
not_by_first Greater b h = refl

-- what precedes a truncation point precedes a later one
pub tighter : (first c : PlainCut) → is_lt (cut_cmp c first) ≡ false
    → (r : Rank) → precedes first r ≡ true → precedes c r ≡ true
tighter first c h r pr = by_cases (precedes c r) refl
  where
    by_cases : (b : Bool) → precedes c r ≡ b → precedes c r ≡ true
    by_cases true is = is
    by_cases false is =
        let no : precedes first r ≡ false =
        marks_ordered.chain (row_mark r) (cut_mark c) (cut_mark first) is (not_by_first _ _ h) in cc

-- no truncation point stands before the first one that there may be
abbrev pub IsLeast : Option PlainCut → Option PlainCut → Type 0
IsLeast None None = Unit {0}
IsLeast None (Some d) = ⊥
IsLeast (Some c) None = Unit {0}
IsLeast (Some c) (Some d) = is_lt (cut_cmp d c) ≡ false

not_before_itself : (c : PlainCut) → is_lt (cut_cmp c c) ≡ false
not_before_itself c = ap is_lt (tied_itself cut_cmp_total c)

least_of_two : (c d : PlainCut) (b : Bool) → is_lt (cut_cmp d c) ≡ b
    → IsLeast (Some (cond b d c)) (Some c)
least_of_two c d true is = cuts.one_way d c is
least_of_two c d false is = not_before_itself c

least_here : (a b : Option PlainCut) → IsLeast (sooner cut_cmp a b) a
least_here None None = tt
least_here None (Some d) = tt
least_here (Some c) None = not_before_itself c
least_here (Some c) (Some d) = least_of_two c d (is_lt (cut_cmp d c)) refl

least_behind : (c d e : PlainCut) (b : Bool) → is_lt (cut_cmp d c) ≡ b
    → is_lt (cut_cmp e d) ≡ false → IsLeast (Some (cond b d c)) (Some e)
least_behind c d e true is h = h
least_behind c d e false is h = cuts.chain e d c h is

least_later : (a b x : Option PlainCut) → IsLeast b x → IsLeast (sooner cut_cmp a b) x
least_later None b x h = h
least_later (Some c) None None h = tt
least_later (Some c) None (Some e) h = absurd h
least_later (Some c) (Some d) None h = tt
least_later (Some c) (Some d) (Some e) h =
    least_behind c d e (is_lt (cut_cmp d c)) refl h

later_ones : (a b : Option PlainCut) (ss : List Searched)
    → AllByRecursion (λ s. IsLeast b s.cut) ss
    → AllByRecursion (λ s. IsLeast (sooner cut_cmp a b) s.cut) ss
later_ones a b [] all = tt
later_ones a b (s ∷ ss) all = (least_later a b s.cut all.0, later_ones a b ss all.1)

pub first_least : (ss : List Searched) → AllByRecursion (λ s. IsLeast (first_cut ss) s.cut) ss
first_least [] = tt
first_least (s ∷ ss) =
    (least_here s.cut (first_cut ss), later_ones s.cut (first_cut ss) ss (first_least ss))

-- what holds of each truncation point with its segment
abbrev pub AtCut : (ViewedSegment → PlainCut → Type 0) → Searched → Option PlainCut → Type 0
AtCut P s None = Unit {0}
AtCut P s (Some d) = P s.segment d

abbrev pub segments_of : List Searched → List ViewedSegment
segments_of ss = map (λ s. s.segment) ss

-- of a segment with its truncation point
abbrev Named : (ViewedSegment → PlainCut → Type 0) → List ViewedSegment → PlainCut → Type 0
Named P segments c = (s : ViewedSegment) × Contains segments s × P s c

named_later : (P : ViewedSegment → PlainCut → Type 0) (x : ViewedSegment)
    (xs : List ViewedSegment) (c : PlainCut) → Named P xs c → Named P (x ∷ xs) c
named_later P x xs c n = (n.0, Contains-append_right (x ∷ []) xs n.0 n.1, n.2)

named_by : (P : ViewedSegment → PlainCut → Type 0) (s : Searched) (ss : List Searched)
    (a b : Option PlainCut) (c : PlainCut) → AtCut P s a
    → ((d : PlainCut) → b ≡ Some d → Named P (segments_of ss) d)
    → sooner cut_cmp a b ≡ Some c → Named P (segments_of (s ∷ ss)) c
named_by P s ss None b c here later is =
    named_later P s.segment (segments_of ss) c (later c is)
named_by P s ss (Some d) None c here later is =
    let same : d ≡ c = cc in
    (s.segment, (0, omega arith, refl), subst (P s.segment) same here)
named_by P s ss (Some d) (Some e) c here later is = by_cases (is_lt (cut_cmp e d)) is
  where
    by_cases : (b : Bool) → Some (cond b e d) ≡ Some c → Named P (segments_of (s ∷ ss)) c
    by_cases true e-is = named_later P s.segment (segments_of ss) c (later c e-is)
    by_cases false d-is =
        let same : d ≡ c = cc in
        (s.segment, (0, omega arith, refl), subst (P s.segment) same here)

-- the first truncation point is that of a segment
pub first_named : (P : ViewedSegment → PlainCut → Type 0) (ss : List Searched) (c : PlainCut)
    → AllByRecursion (λ s. AtCut P s s.cut) ss → first_cut ss ≡ Some c
    → Named P (segments_of ss) c
first_named P [] c all is = absurd (let no : None ≡ Some c = is in cc)
first_named P (s ∷ ss) c all is =
    named_by P s ss s.cut (first_cut ss) c all.0
    (λ d e. first_named P ss d all.1 e) is
