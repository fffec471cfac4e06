-- What a merge needs, and what it brings. Source: Lucene's segment merger, which writes the live
-- documents of its sources; their order by number is this project's own.
use Rattle.std.specs.Prelude.{◌≡◌, ◌≤◌, ⊤, ℕ, not, nat_eq, Option, Some, None, List, [], ◌∷◌}
use Rattle.std.specs.Prelude.{length, filter, sum_by, count_by}
use Rattle.std.specs.List.{AllByRecursion}
use Rattle.std.specs.declared.cmp.Ordering.{Ordering}
use Rattle.std.specs.Ordering.{nat_cmp, on}
use Rattle.sg_base.specs.Ranking.{in_order}
use Rattle.sg_paths.specs.declared.limits.TheConstants.{MOST_SEGMENT_DOCUMENTS}
use Rattle.sg_paths.specs.declared.limits.TheConstants.{MOST_SEGMENT_PATHS}
use Rattle.sg_paths.specs.Operations.{PlainOp, PlainNumbered}
use Rattle.sg_paths.specs.Paths.{paths}
use Rattle.sg_paths.specs.LiveDocuments.{is_deleted}
use Rattle.segment.specs.Pieces.{PieceBody, unbuilt, segment, PlainPiece, piece_documents}
use Rattle.segment.specs.Pieces.{live_docs_or_all}
use Rattle.segment.specs.Views.{PlainParts, AreCovered, all_documents}

-- a body that is a segment
abbrev pub HasSegment : PieceBody → Type 0
HasSegment (unbuilt batch) = ⊥
HasSegment (segment documents) = ⊤

-- a piece that can be merged: it has its segment, and as many live docs as documents
pub record IsSource (p : PlainPiece) : Type 0 where
  pub built : HasSegment p.body
  pub live_docs : length (live_docs_or_all (piece_documents p) p.live_docs)
      ≡ length (piece_documents p)

-- parts that can be merged: at most ten sources, whose documents have different numbers and are
-- together within the limits of a segment
pub record AreMergeable (parts : PlainParts) : Type 0 where
  pub sources : AllByRecursion IsSource parts.pieces
  pub few : length parts.pieces ≤ 10
  pub numbers : (n : ℕ) → count_by (λ d. nat_eq d.seq n) (all_documents parts.pieces) ≤ 1
  pub documents : length (all_documents parts.pieces) ≤ MOST_SEGMENT_DOCUMENTS
  pub paths : sum_by (λ d. length (paths d.document)) (all_documents parts.pieces)
      ≤ MOST_SEGMENT_PATHS

-- documents, the lesser number first
abbrev pub document_cmp : PlainNumbered → PlainNumbered → Ordering
document_cmp = on (λ d. d.seq) nat_cmp

-- what a merge keeps: the documents of its sources that the first upto operations of the journal
-- don't delete, by number
abbrev pub merged_documents : List PlainOp → PlainParts → List PlainNumbered
merged_documents journal parts =
    in_order document_cmp
    (filter (λ d. not (is_deleted journal parts.upto d)) (all_documents parts.pieces))

-- the documents of a segment, if there are any
abbrev pub unless_empty : List PlainNumbered → Option (List PlainNumbered)
unless_empty [] = None
unless_empty (d ∷ ds) = Some (d ∷ ds)

-- a merge that is worked: its parts, and the documents of the segment that it brings
pub record PlainDone : Type 0 where
  pub parts : PlainParts
  pub segment : Option (List PlainNumbered)

-- it brings what the merge keeps, by each journal that the parts cover
abbrev pub IsWorked : PlainDone → Type 0
IsWorked d =
    (journal : List PlainOp) → AreCovered journal d.parts
    → d.segment ≡ unless_empty (merged_documents journal d.parts)
