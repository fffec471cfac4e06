-- How a view is built, and what it keeps. No public clause cites this module.
use Rattle.std.specs.Prelude.{◌≡◌, ◌<◌, ◌^◌, ℕ, List, length, map}
use Rattle.std.specs.List.{AllByRecursion}
use Rattle.sg_paths.specs.Operations.{PlainBatch}
use Rattle.segment.specs.Pieces.{PlainPiece, piece_documents}
use Rattle.segment.specs.Views.{PlainParts}
use Rattle.piece_docs.specs.PieceDocs.{live_docs_less}
use Rattle.sg_view.specs.Viewing.{LiveSegment, PlainView}

-- a piece less the documents that batches delete, up to upto
abbrev pub piece_at : ℕ → List PlainBatch → PlainPiece → LiveSegment
piece_at upto batches p = record {
  generation = p.generation;
  documents = piece_documents p;
  live_docs = live_docs_less upto batches p;
}

-- the view that is built of parts
abbrev pub built_view : PlainParts → PlainView
built_view parts = record {
  number = parts.number;
  upto = parts.upto;
  segments = map (piece_at parts.upto parts.batches) parts.pieces;
  generations = parts.generations;
}

-- there are as many live docs as documents
abbrev pub IsCounted : LiveSegment → Type 0
IsCounted s = length s.live_docs ≡ length s.documents

-- so in each segment, of which there aren't too many
pub record AreSegments (segments : List LiveSegment) : Type 0 where
  pub counted : AllByRecursion IsCounted segments
  pub few : length segments < 2 ^ 32
