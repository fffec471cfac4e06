-- What a view stands for. Source: Lucene's point-in-time readers, whose live docs are fixed.
use Rattle.std.specs.Prelude.{◌≡◌, ◌≤◌, ℕ, Bool, not, List, length, map, filter}
use Rattle.std.specs.List.{AllByRecursion}
use Rattle.sg_paths.specs.Operations.{PlainOp, PlainNumbered}
use Rattle.sg_paths.specs.LiveDocuments.{is_deleted, live_documents}
use Rattle.sg_answers.specs.Reports.{ViewedSegment, viewed_segment, live_in}
use Rattle.segment.specs.Items.{HaveSameItems}
use Rattle.segment.specs.Pieces.{piece_documents}
use Rattle.segment.specs.Views.{PlainParts}

-- a segment of a view: its documents, and which of them are live
pub record LiveSegment : Type 0 where
  pub generation : ℕ
  pub documents : List PlainNumbered
  pub live_docs : List Bool

-- what is seen of it
abbrev pub seen_segment : LiveSegment → ViewedSegment
seen_segment s = viewed_segment s.generation s.documents s.live_docs

-- a view
pub record PlainView : Type 0 where
  pub number : ℕ
  pub upto : ℕ
  pub segments : List LiveSegment
  pub generations : List ℕ

-- what is seen of its segments
abbrev pub viewed_segments : PlainView → List ViewedSegment
viewed_segments v = map seen_segment v.segments

-- the view represents the first upto operations of a journal: in each segment the documents are
-- live that these don't delete, and the live ones of all segments together are the live documents,
-- each once
pub record Represents (journal : List PlainOp) (v : PlainView) : Type 0 where
  pub within : v.upto ≤ length journal
  pub exact : AllByRecursion (λ s. s.live
      ≡ filter (λ d. not (is_deleted journal v.upto d)) s.documents) (viewed_segments v)
  pub live : HaveSameItems (live_in (viewed_segments v)) (live_documents journal v.upto)

-- the view is that of these parts: their number, upto, generations and documents
pub record IsViewOf (parts : PlainParts) (v : PlainView) : Type 0 where
  pub number : v.number ≡ parts.number
  pub upto : v.upto ≡ parts.upto
  pub generations : v.generations ≡ parts.generations
  pub segments : map (λ s. s.generation) v.segments ≡ map (λ p. p.generation) parts.pieces
  pub documents : map (λ s. s.documents) v.segments ≡ map piece_documents parts.pieces
