-- The latest delete of an id reaches all that the others of that id reach.
use Rattle.std.proofs.Common.{◌≡◌, ℕ, Bool, true, false, ◌&&◌, ◌||◌, List, [], ◌∷◌, cond}
use Rattle.std.proofs.Common.{refl, ap, ◌∙◌, arith}
use Rattle.std.specs.Prelude.{nat_lt, nat_le, bytes_eq}
use Rattle.std.specs.List.{list_any}
use Rattle.std.specs.Cmp.Lexicographic.{bytes_decides}
use Rattle.std.proofs.lemmas.Bool.Decides.{nat_tests}
use Rattle.sg_paths.specs.Operations.{PlainNumbered}
use Rattle.delete_queue.specs.Deletes.{NumberedDelete, reaches}
use Rattle.delete_queue.specs.DeleteOrder.{is_covered_by, latest_behind, latest}

both_parts : (a b : Bool) → (a && b) ≡ true → (a ≡ true) × (b ≡ true)
both_parts true true e = (refl, refl)
both_parts true false e = cc
both_parts false b e = cc

or_true : (a b c : Bool) → (b ≡ true → a ≡ true) → (a || c) ≡ (a || (b || c))
or_true true b c h = refl
or_true false false c h = refl
or_true false true c h = let no : false ≡ true = h refl in cc

-- what a delete reaches, the one that covers it reaches
reached_too : (d : PlainNumbered) (e f : NumberedDelete) → is_covered_by e f ≡ true
    → reaches d f ≡ true → reaches d e ≡ true
reached_too d e f covered reached =
    let parts = both_parts (bytes_eq e.id f.id) (nat_le f.seq e.seq) covered in
    let ends = both_parts (bytes_eq d.document.id f.id) (nat_lt d.seq f.seq) reached in
    let ids : e.id ≡ f.id = (bytes_decides e.id f.id).0 parts.0 in
    let later : nat_lt d.seq e.seq ≡ true = grind (arith, nat_tests, parts.1, ends.1) in
    let same : bytes_eq d.document.id e.id ≡ true =
    ap (λ (id : List ℕ). bytes_eq d.document.id id) ids ∙ ends.0 in
    rw (same, later) refl

behind_reach : (d : PlainNumbered) (e : NumberedDelete) (es : List NumberedDelete)
    → (reaches d e || list_any (reaches d) (latest_behind e es))
    ≡ (reaches d e || list_any (reaches d) es)
behind_reach d e [] = refl
behind_reach d e (f ∷ later) =
    by_cases (is_covered_by e f) refl (behind_reach d e later) (behind_reach d f later)
  where
    by_cases : (b : Bool) → is_covered_by e f ≡ b
        → (reaches d e || list_any (reaches d) (latest_behind e later))
        ≡ (reaches d e || list_any (reaches d) later)
        → (reaches d f || list_any (reaches d) (latest_behind f later))
        ≡ (reaches d f || list_any (reaches d) later)
        → (reaches d e || list_any (reaches d)
        (cond b (latest_behind e later) (f ∷ latest_behind f later)))
        ≡ (reaches d e || (reaches d f || list_any (reaches d) later))
    by_cases true is kept taken =
        kept ∙ or_true (reaches d e) (reaches d f) (list_any (reaches d) later)
        (reached_too d e f is)
    by_cases false is kept taken = ap (λ (b : Bool). reaches d e || b) taken

-- so they together reach the same documents
pub latest_reach : (d : PlainNumbered) (es : List NumberedDelete)
    → list_any (reaches d) (latest es) ≡ list_any (reaches d) es
latest_reach d [] = refl
latest_reach d (e ∷ es) = behind_reach d e es
