-- The pieces of an index: unbuilt batches and segments, with the live docs of each. Source:
-- Lucene's segments and their live docs.
use Rattle.std.specs.Prelude.{ℕ, Bool, true, not, List, map, Option, Some, None}
use Rattle.sg_paths.specs.Operations.{PlainOp, PlainNumbered, PlainBatch, documents_from}
use Rattle.sg_paths.specs.LiveDocuments.{is_deleted}
use Rattle.segment.specs.declared.parts.Kind.{Kind}
use Rattle.segment.specs.declared.parts.Kind.TheVariants.{Raw, Built}

-- what a piece is made of: a batch of operations, or the documents of a segment
pub data PieceBody : Type 0 where
  unbuilt : PlainBatch → PieceBody
  segment : List PlainNumbered → PieceBody

-- a `Kind` as plain data
abbrev pub body_of : Kind → PieceBody
body_of (Raw batch) = unbuilt batch.value
body_of (Built documents) = segment documents.value

-- a generation with what it is made of, its live docs, and the number of the operation through
-- which deletes are applied to these
pub record PlainPiece : Type 0 where
  pub generation : ℕ
  pub body : PieceBody
  pub live_docs : Option (List Bool)
  pub applied : ℕ

-- the documents of a body, deleted ones too
abbrev pub body_documents : PieceBody → List PlainNumbered
body_documents (unbuilt batch) = documents_from batch.from batch.operations
body_documents (segment documents) = documents

-- the documents of a piece, deleted ones too
abbrev pub piece_documents : PlainPiece → List PlainNumbered
piece_documents p = body_documents p.body

-- the live docs of documents, where none are said for all being live
abbrev pub live_docs_or_all : List PlainNumbered → Option (List Bool) → List Bool
live_docs_or_all documents None = map (λ _. true) documents
live_docs_or_all documents (Some live_docs) = live_docs

-- the live docs of documents after the first upto operations of a journal
abbrev pub live_docs_at : List PlainOp → ℕ → List PlainNumbered → List Bool
live_docs_at journal upto documents = map (λ d. not (is_deleted journal upto d)) documents
