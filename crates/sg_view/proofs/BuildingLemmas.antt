-- What a built view represents.
use Rattle.std.proofs.Common.{◌≡◌, ◌≤◌, ℕ, Bool, true, false, not}
use Rattle.std.proofs.Common.{List, [], ◌∷◌, ◌++◌, map, refl, sym, ap, ◌∙◌, subst}
use Rattle.std.proofs.Common.{cond}
use Rattle.std.specs.Prelude.{filter}
use Rattle.std.specs.List.{AllByRecursion}
use Rattle.std.proofs.lemmas.List.Elements.{filter-append}
use Rattle.sg_paths.specs.Operations.{PlainOp, PlainNumbered, PlainBatch}
use Rattle.sg_paths.specs.LiveDocuments.{is_deleted}
use Rattle.sg_answers.specs.Reports.{live_of, live_in}
use Rattle.sg_paths.specs.Batches.{Cover}
use Rattle.segment.specs.Items.{total_of}
use Rattle.segment.specs.Pieces.{PlainPiece, piece_documents}
use Rattle.segment.specs.Views.{PlainParts, IsApplied, all_documents, AreParts}
use Rattle.segment.specs.Views.{IsBuildablePiece}
use Rattle.piece_docs.proofs.LiveLemmas.{live_docs_less-covered, live_docs_less-length}
use Rattle.sg_view.specs.Viewing.{LiveSegment, seen_segment}
use Rattle.sg_view.specs.Viewing.{Represents, IsViewOf}
use Rattle.sg_view.specs.Building.{piece_at, built_view, IsCounted}

-- ---- live docs

live_of-map : (t : PlainNumbered → Bool) (ds : List PlainNumbered)
    → live_of ds (map t ds) ≡ filter t ds
live_of-map t [] = refl
live_of-map t (d ∷ ds) = by_cases (t d) (live_of-map t ds)
  where
    by_cases : (b : Bool) → live_of ds (map t ds) ≡ filter t ds
        → live_of (d ∷ ds) (b ∷ map t ds) ≡ cond b (d ∷ filter t ds) (filter t ds)
    by_cases true e = ap (λ (zs : List PlainNumbered). d ∷ zs) e
    by_cases false e = e

-- ---- pieces

-- whether a document is live after the first upto operations
abbrev is_live : List PlainOp → ℕ → PlainNumbered → Bool
is_live journal upto d = not (is_deleted journal upto d)

abbrev IsKnown : ℕ → ℕ → PlainPiece → Type 0
IsKnown start upto p = (start ≤ p.applied) × (p.applied ≤ upto)

-- the live ones of a piece
piece_live : (journal : List PlainOp) (u start : ℕ) (bs : List PlainBatch) (p : PlainPiece)
    → Cover journal start u bs → IsKnown start u p → IsApplied journal p
    → (seen_segment (piece_at u bs p)).live ≡ filter (is_live journal u) (piece_documents p)
piece_live journal u start bs p covered known is =
    ap (λ (ms : List Bool). live_of (piece_documents p) ms)
    (live_docs_less-covered journal u start bs p covered known.0 known.1 is)
    ∙ live_of-map (is_live journal u) (piece_documents p)

exact_all : (journal : List PlainOp) (u start : ℕ) (bs : List PlainBatch) (ps : List PlainPiece)
    → Cover journal start u bs → AllByRecursion (IsKnown start u) ps
    → AllByRecursion (IsApplied journal) ps
    → AllByRecursion (λ s. s.live ≡ filter (is_live journal u) s.documents)
    (map seen_segment (map (piece_at u bs) ps))
exact_all journal u start bs [] covered known are = tt
exact_all journal u start bs (p ∷ ps) covered known are = (
  piece_live journal u start bs p covered known.0 are.0,
  exact_all journal u start bs ps covered known.1 are.1,
)

live_all : (journal : List PlainOp) (u start : ℕ) (bs : List PlainBatch) (ps : List PlainPiece)
    → Cover journal start u bs → AllByRecursion (IsKnown start u) ps
    → AllByRecursion (IsApplied journal) ps
    → live_in (map seen_segment (map (piece_at u bs) ps))
    ≡ filter (is_live journal u) (all_documents ps)
live_all journal u start bs [] covered known are = refl
live_all journal u start bs (p ∷ ps) covered known are =
    ap (λ (ds : List PlainNumbered). ds ++ live_in (map seen_segment (map (piece_at u bs) ps)))
    (piece_live journal u start bs p covered known.0 are.0)
    ∙ ap (λ (ds : List PlainNumbered). filter (is_live journal u) (piece_documents p) ++ ds)
    (live_all journal u start bs ps covered known.1 are.1)
    ∙ sym (filter-append (is_live journal u) (piece_documents p) (all_documents ps))

-- ---- the view

pub represents : (journal : List PlainOp) (parts : PlainParts) → AreParts journal parts
    → Represents journal (built_view parts)
represents journal parts are =
    let own = are.pieces in record {
      within = own.within;
      exact = exact_all journal parts.upto own.start parts.batches parts.pieces own.covered
          own.known own.applied;
      live = λ f. ap (total_of f)
          (live_all journal parts.upto own.start parts.batches parts.pieces own.covered own.known
          own.applied) ∙ are.live f;
    }

same_generations : (u : ℕ) (bs : List PlainBatch) (ps : List PlainPiece)
    → map (λ s. s.generation) (map (piece_at u bs) ps) ≡ map (λ p. p.generation) ps
same_generations u bs [] = refl
same_generations u bs (p ∷ ps) =
    ap (λ (gs : List ℕ). p.generation ∷ gs) (same_generations u bs ps)

same_documents : (u : ℕ) (bs : List PlainBatch) (ps : List PlainPiece)
    → map (λ s. s.documents) (map (piece_at u bs) ps) ≡ map piece_documents ps
same_documents u bs [] = refl
same_documents u bs (p ∷ ps) =
    ap (λ (dss : List (List PlainNumbered)). piece_documents p ∷ dss) (same_documents u bs ps)

pub is_view_of : (parts : PlainParts) → IsViewOf parts (built_view parts)
is_view_of parts = record {
  number = refl;
  upto = refl;
  generations = refl;
  segments = same_generations parts.upto parts.batches parts.pieces;
  documents = same_documents parts.upto parts.batches parts.pieces;
}

-- there are as many live docs as documents
pub counted : (u : ℕ) (bs : List PlainBatch) (ps : List PlainPiece)
    → AllByRecursion IsBuildablePiece ps → AllByRecursion IsCounted (map (piece_at u bs) ps)
counted u bs [] are = tt
counted u bs (p ∷ ps) are = (live_docs_less-length u bs p are.0.live_docs, counted u bs ps are.1)

-- the same of what was built of the parts
pub counted_in : (own parts : PlainParts) (ps : List PlainPiece) (bs : List PlainBatch)
    (built : List LiveSegment) → own ≡ parts → AllByRecursion IsBuildablePiece parts.pieces
    → ps ≡ own.pieces → bs ≡ own.batches → built ≡ map (piece_at own.upto bs) ps
    → AllByRecursion IsCounted built
counted_in own parts ps bs built same are pieces batches is =
    let whole : AllByRecursion IsBuildablePiece ps =
    subst (λ (z : List PlainPiece). AllByRecursion IsBuildablePiece z)
    (sym (pieces ∙ ap (λ (q : PlainParts). q.pieces) same)) are in
    subst (λ (z : List LiveSegment). AllByRecursion IsCounted z) (sym is)
    (counted own.upto bs ps whole)
