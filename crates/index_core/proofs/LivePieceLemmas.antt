-- The live documents of pieces, some of which a merge replaces.
use Rattle.std.proofs.Common.{◌≡◌, ◌≤◌, ◌+◌, ℕ, zero, suc, Bool, true, false, cond, not, ◌||◌}
use Rattle.std.proofs.Common.{List, [], ◌∷◌, ◌++◌, take, drop, refl, sym, ap, ◌∙◌, arith}
use Rattle.std.specs.Prelude.{filter}
use Rattle.std.specs.List.{list_any}
use Rattle.std.proofs.lemmas.Grind.{flat_map-append}
use Rattle.sg_paths.specs.Operations.{PlainOp, PlainNumbered}
use Rattle.sg_paths.specs.LiveDocuments.{deletes_id, is_deleted}
use Rattle.segment.specs.Items.{total_of}
use Rattle.segment.specs.Pieces.{PlainPiece, piece_documents}
use Rattle.segment.specs.Views.{all_documents}
use Rattle.index_core.specs.Histories.{is_among}
use Rattle.index_core.specs.EndedMerges.{MergedPiecesKeepLiveDocuments}
use Rattle.index_core.proofs.ListLemmas.{filter_inside, passing, total_of-filter, total_of-append}

-- ---- what is deleted stays deleted

either_true : (a b c : Bool) → (b ≡ true → c ≡ true) → (a || b) ≡ true → (a || c) ≡ true
either_true true b c h is = refl
either_true false b c h is = h is

met_later : (p : PlainOp → Bool) (s n u : ℕ) (js : List PlainOp) → n ≤ u
    → list_any p (drop s (take n js)) ≡ true → list_any p (drop s (take u js)) ≡ true
met_later p zero zero u js less is = let no : false ≡ true = is in absurd cc
met_later p (suc s) zero u js less is = let no : false ≡ true = is in absurd cc
met_later p s (suc n) zero js less is = absurd (omega (arith, less))
met_later p zero (suc n) (suc u) [] less is = let no : false ≡ true = is in absurd cc
met_later p (suc s) (suc n) (suc u) [] less is = let no : false ≡ true = is in absurd cc
met_later p zero (suc n) (suc u) (j ∷ js) less is =
    either_true (p j) (list_any p (take n js)) (list_any p (take u js))
    (met_later p zero n u js (omega (arith, less))) is
met_later p (suc s) (suc n) (suc u) (j ∷ js) less is =
    met_later p s n u js (omega (arith, less)) is

pub deleted_later : (journal : List PlainOp) (n u : ℕ) (d : PlainNumbered) → n ≤ u
    → not (is_deleted journal u d) ≡ true → not (is_deleted journal n d) ≡ true
deleted_later journal n u d less live =
    by_test (is_deleted journal n d) refl
  where
    by_test : (b : Bool) → is_deleted journal n d ≡ b → not b ≡ true
    by_test false is = refl
    by_test true is =
        sym (ap not (met_later (deletes_id d.document.id) d.seq n u journal less is)) ∙ live

-- ---- sums

-- documents of pieces, split by a test of pieces
split_total : (t : PlainPiece → Bool) (f : PlainNumbered → ℕ) (ps : List PlainPiece)
    → total_of f (all_documents ps)
    ≡ total_of f (all_documents (filter (λ p. not (t p)) ps))
    + total_of f (all_documents (filter t ps))
split_total t f [] = refl
split_total t f (p ∷ ps) = by_test (t p) (split_total t f ps)
  where
    by_test : (b : Bool)
        → total_of f (all_documents ps)
        ≡ total_of f (all_documents (filter (λ q. not (t q)) ps))
        + total_of f (all_documents (filter t ps))
        → total_of f (piece_documents p ++ all_documents ps)
        ≡ total_of f (all_documents (cond (not b) (p ∷ filter (λ q. not (t q)) ps)
        (filter (λ q. not (t q)) ps)))
        + total_of f (all_documents (cond b (p ∷ filter t ps) (filter t ps)))
    by_test true e =
        let h = total_of-append f (piece_documents p) (all_documents ps) in
        let k = total_of-append f (piece_documents p) (all_documents (filter t ps)) in
        omega (arith, e, h, k)
    by_test false e =
        let h = total_of-append f (piece_documents p) (all_documents ps) in
        let k = total_of-append f (piece_documents p)
        (all_documents (filter (λ q. not (t q)) ps)) in
        omega (arith, e, h, k)

pub keeps_live : MergedPiecesKeepLiveDocuments
keeps_live journal upto last gs pieces brought early within same before f =
    let live : ℕ → PlainNumbered → Bool = λ n d. not (is_deleted journal n d) in
    let t : PlainPiece → Bool = λ p. is_among p.generation gs in
    let kept = filter (λ p. not (t p)) pieces in
    let from = filter t pieces in
    let g : PlainNumbered → ℕ = passing f (live last) in
    let spread = ap (total_of g) (flat_map-append piece_documents kept brought)
    ∙ total_of-append g (all_documents kept) (all_documents brought) in
    let merged : total_of g (all_documents brought) ≡ total_of g (all_documents from) =
    same g
    ∙ sym (total_of-filter f (live last) (filter (live upto) (all_documents from)))
    ∙ ap (total_of f) (filter_inside (live last) (live upto) (all_documents from)
    (λ d h. deleted_later journal upto last d early h))
    ∙ total_of-filter f (live last) (all_documents from) in
    let whole = split_total t g pieces in
    let old = sym (total_of-filter f (live last) (all_documents pieces)) ∙ before f in
    let e : total_of g (all_documents (kept ++ brought)) ≡ total_of g (all_documents pieces) =
    omega (arith, spread, merged, whole) in
    total_of-filter f (live last) (all_documents (kept ++ brought)) ∙ e ∙ old
