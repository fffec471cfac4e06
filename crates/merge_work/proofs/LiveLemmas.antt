-- What a merge keeps of its sources are the documents that no operation deletes.
use Rattle.std.proofs.Common.{◌≡◌, ◌≤◌, ◌<◌, ◌+◌, ℕ, zero, suc, Bool, true, false, not}
use Rattle.std.proofs.Common.{List, [], ◌∷◌, ◌++◌, length, map, refl, sym, ap, ◌∙◌, arith}
use Rattle.std.proofs.Common.{cond, drop, get_or, append_assoc}
use Rattle.std.specs.Prelude.{filter}
use Rattle.std.specs.List.{AllByRecursion, flat_map}
use Rattle.std.proofs.lemmas.List.Elements.{filter-append}
use Rattle.sg_base.specs.Ranking.{in_order}
use Rattle.sg_paths.specs.Operations.{PlainOp, PlainNumbered, PlainBatch}
use Rattle.sg_paths.specs.LiveDocuments.{is_deleted}
use Rattle.sg_paths.specs.Batches.{Cover}
use Rattle.segment.specs.Pieces.{PlainPiece, piece_documents}
use Rattle.segment.specs.Views.{PlainParts, IsApplied, all_documents, AreCovered}
use Rattle.piece_docs.proofs.LiveLemmas.{live_docs_less-covered}
use Rattle.merge_work.specs.Merging.{document_cmp, merged_documents}
use Rattle.merge_work.specs.Working.{no_document, live_of, kept_of, documents_kept}

-- ---- live docs

live_of-map : (t : PlainNumbered → Bool) (ds : List PlainNumbered)
    → live_of ds (map t ds) ≡ filter t ds
live_of-map t [] = refl
live_of-map t (d ∷ ds) = by_cases (t d) (live_of-map t ds)
  where
    by_cases : (b : Bool) → live_of ds (map t ds) ≡ filter t ds
        → live_of (d ∷ ds) (b ∷ map t ds) ≡ cond b (d ∷ filter t ds) (filter t ds)
    by_cases true e = ap (λ (zs : List PlainNumbered). d ∷ zs) e
    by_cases false e = e

-- one document more
live_of-drop : (ds : List PlainNumbered) (ms : List Bool) (i : ℕ) (d : PlainNumbered) (b : Bool)
    → i < length ds → length ms ≡ length ds
    → live_of (drop i ds) (drop i ms)
    ≡ live_of (get_or ds i d ∷ []) (get_or ms i b ∷ [])
    ++ live_of (drop (suc i) ds) (drop (suc i) ms)
live_of-drop [] ms i d b less same = absurd (omega (arith, less))
live_of-drop (x ∷ ds) [] i d b less same = absurd (omega (arith, same))
live_of-drop (x ∷ ds) (true ∷ ms) zero d b less same = refl
live_of-drop (x ∷ ds) (false ∷ ms) zero d b less same = refl
live_of-drop (x ∷ ds) (m ∷ ms) (suc i) d b less same =
    live_of-drop ds ms i d b (omega (arith, less)) (omega (arith, same))

pub kept_one_more : (ds : List PlainNumbered) (ms : List Bool) (i : ℕ)
    (kept more : List PlainNumbered) (x : PlainNumbered) (m : Bool)
    → i < length ds → length ms ≡ length ds → x ≡ get_or ds i no_document
    → m ≡ get_or ms i true → more ≡ kept ++ live_of (x ∷ []) (m ∷ [])
    → kept ++ live_of (drop i ds) (drop i ms) ≡ live_of ds ms
    → more ++ live_of (drop (i + 1) ds) (drop (i + 1) ms) ≡ live_of ds ms
kept_one_more ds ms i kept more x m less same x-is m-is more-is whole =
    let rest = live_of (drop (suc i) ds) (drop (suc i) ms) in
    let next : i + 1 ≡ suc i = omega arith in
    ap (λ (n : ℕ). more ++ live_of (drop n ds) (drop n ms)) next
    ∙ ap (λ (zs : List PlainNumbered). zs ++ rest) more-is
    ∙ append_assoc kept (live_of (x ∷ []) (m ∷ [])) rest
    ∙ ap (λ (y : PlainNumbered). kept ++ (live_of (y ∷ []) (m ∷ []) ++ rest)) x-is
    ∙ ap (λ (b : Bool). kept ++ (live_of (get_or ds i no_document ∷ []) (b ∷ []) ++ rest)) m-is
    ∙ ap (λ (zs : List PlainNumbered). kept ++ zs)
    (sym (live_of-drop ds ms i no_document true less same))
    ∙ whole

-- ---- sources

-- whether a document is live after the first upto operations
abbrev is_live : List PlainOp → ℕ → PlainNumbered → Bool
is_live journal upto d = not (is_deleted journal upto d)

abbrev IsKnown : ℕ → ℕ → PlainPiece → Type 0
IsKnown start upto p = (start ≤ p.applied) × (p.applied ≤ upto)

kept_of-source : (journal : List PlainOp) (u start : ℕ) (bs : List PlainBatch) (p : PlainPiece)
    → Cover journal start u bs → IsKnown start u p → IsApplied journal p
    → kept_of u bs p ≡ filter (is_live journal u) (piece_documents p)
kept_of-source journal u start bs p covered known is =
    ap (λ (ms : List Bool). live_of (piece_documents p) ms)
    (live_docs_less-covered journal u start bs p covered known.0 known.1 is)
    ∙ live_of-map (is_live journal u) (piece_documents p)

kept_of-sources : (journal : List PlainOp) (u start : ℕ) (bs : List PlainBatch)
    (ps : List PlainPiece) → Cover journal start u bs → AllByRecursion (IsKnown start u) ps
    → AllByRecursion (IsApplied journal) ps
    → flat_map (kept_of u bs) ps ≡ filter (is_live journal u) (all_documents ps)
kept_of-sources journal u start bs [] covered known are = refl
kept_of-sources journal u start bs (p ∷ ps) covered known are =
    ap (λ (ds : List PlainNumbered). ds ++ flat_map (kept_of u bs) ps)
    (kept_of-source journal u start bs p covered known.0 are.0)
    ∙ ap (λ (ds : List PlainNumbered). filter (is_live journal u) (piece_documents p) ++ ds)
    (kept_of-sources journal u start bs ps covered known.1 are.1)
    ∙ sym (filter-append (is_live journal u) (piece_documents p) (all_documents ps))

-- what is kept is what the merge is to keep
pub kept-covered : (journal : List PlainOp) (parts : PlainParts) → AreCovered journal parts
    → documents_kept parts.upto parts.batches parts.pieces ≡ merged_documents journal parts
kept-covered journal parts are =
    ap (in_order document_cmp)
    (kept_of-sources journal parts.upto are.start parts.batches parts.pieces are.covered are.known
    are.applied)
