-- The rows so far, and the last of them.
use Rattle.std.proofs.Common.{◌≡◌, ◌<◌, ◌≤◌, ◌+◌, ◌++◌, ◌∷◌, ℕ, List, [], Some, length, take, map}
use Rattle.std.proofs.Common.{get_or, refl, sym, ap, subst, ◌∙◌}
use Rattle.std.specs.Prelude.{◌↔◌, Option, IfSome}
use Rattle.std.proofs.lemmas.List.{take_more, map-append, length-map, length-take-le}
use Rattle.fst_code.specs.Tails.{Tail}
use Rattle.fst_build.specs.Sorted.{GoesOn, MayFollow, last_of}
use Rattle.fst_build.proofs.BuilderLemmas.{last_append}
use Rattle.fst_tests.specs.declared.rows.Row.{Row}
use Rattle.fst_tests.specs.Rows.{tail_of}

pub length-tails_so_far : (rows : List Row) (n : ℕ) → n ≤ length rows
    → length (map tail_of (take n rows)) ≡ n
length-tails_so_far rows n within =
    length-map (take n rows) tail_of ∙ length-take-le n rows within

-- one row more
pub tails_more : (rows : List Row) (i : ℕ) (row : Row) → i < length rows → row ≡ get_or rows i row
    → map tail_of (take (i + 1) rows) ≡ map tail_of (take i rows) ++ tail_of row ∷ []
tails_more rows i row there is =
    ap (map tail_of) (take_more rows i row there)
    ∙ map-append tail_of (take i rows) (get_or rows i row ∷ [])
    ∙ ap (λ (r : Row). map tail_of (take i rows) ++ tail_of r ∷ []) (sym is)

-- what follows the rows so far is what goes on from the last one
pub follows_last : (rows : List Row) (i : ℕ) (row : Row) (path : List ℕ) → i < length rows
    → row ≡ get_or rows i row
    → GoesOn row.path.items path ↔ MayFollow (map tail_of (take (i + 1) rows)) path
follows_last rows i row path there is =
    let last : last_of (map tail_of (take (i + 1) rows)) ≡ Some (tail_of row) =
    ap last_of (tails_more rows i row there is)
    ∙ last_append (map tail_of (take i rows)) (tail_of row ∷ []) (tail_of row) refl in
    let goes : Option Tail → Type 0 = λ o. IfSome o (λ t. GoesOn t.0 path) in
    (λ h. subst goes (sym last) h, λ h. subst goes last h)
