-- What the parts of a view or a merge say of a journal. The index gives them; who builds of them
-- knows no history. Source: Lucene's point-in-time readers.
use Rattle.std.specs.Prelude.{◌≡◌, ◌≤◌, ◌<◌, ◌+◌, ◌^◌, ℕ, not, List, length, map, filter}
use Rattle.std.specs.List.{flat_map, AllByRecursion}
use Rattle.sg_paths.specs.Operations.{PlainOp, PlainNumbered, PlainBatch}
use Rattle.sg_paths.specs.LiveDocuments.{is_deleted, live_documents}
use Rattle.sg_paths.specs.Batches.{Cover}
use Rattle.segment.specs.Items.{HaveSameItems}
use Rattle.segment.specs.Pieces.{PlainPiece, PieceBody, unbuilt, segment, piece_documents}
use Rattle.segment.specs.Pieces.{live_docs_or_all, live_docs_at}

-- the parts of a view or a merge, with its number
pub record PlainParts : Type 0 where
  pub number : ℕ
  pub upto : ℕ
  pub pieces : List PlainPiece
  pub batches : List PlainBatch
  pub generations : List ℕ

-- the live docs of a piece are those after the operations whose deletes are applied to it
abbrev pub IsApplied : List PlainOp → PlainPiece → Type 0
IsApplied journal p =
    live_docs_or_all (piece_documents p) p.live_docs
    ≡ live_docs_at journal p.applied (piece_documents p)

-- the documents of pieces, deleted ones too
abbrev pub all_documents : List PlainPiece → List PlainNumbered
all_documents pieces = flat_map piece_documents pieces

-- The parts are of the first upto operations of a journal: deletes are applied to each piece, and
-- the batches have all operations since.
pub record AreCovered (journal : List PlainOp) (parts : PlainParts) : Type 0 where
  pub within : parts.upto ≤ length journal
  pub start : ℕ
  pub applied : AllByRecursion (IsApplied journal) parts.pieces
  pub known : AllByRecursion (λ p. (start ≤ p.applied) × (p.applied ≤ parts.upto)) parts.pieces
  pub covered : Cover journal start parts.upto parts.batches
  pub generations : map (λ p. p.generation) parts.pieces ≡ parts.generations

-- the parts of a view: beyond that, the live ones of all their documents are the live documents,
-- each once
pub record AreParts (journal : List PlainOp) (parts : PlainParts) : Type 0 where
  pub pieces : AreCovered journal parts
  pub live : HaveSameItems (filter (λ d. not (is_deleted journal parts.upto d))
      (all_documents parts.pieces)) (live_documents journal parts.upto)

-- a batch that a segment can be built of
pub record IsBuildable (b : PlainBatch) : Type 0 where
  pub some : 1 ≤ length b.operations
  pub most : length b.operations ≤ 16384
  pub from : 1 ≤ b.from
  pub upto : b.upto + 1 ≡ b.from + length b.operations

abbrev pub IsBuildableBody : PieceBody → Type 0
IsBuildableBody (unbuilt batch) = IsBuildable batch
IsBuildableBody (segment documents) = Unit {0}

-- what a piece needs so that a view can be built of it: its batch can be built, and there are as
-- many live docs as documents
pub record IsBuildablePiece (p : PlainPiece) : Type 0 where
  pub body : IsBuildableBody p.body
  pub live_docs : length (live_docs_or_all (piece_documents p) p.live_docs)
      ≡ length (piece_documents p)

-- what parts need so that a view can be built of them
pub record AreBuildable (parts : PlainParts) : Type 0 where
  pub pieces : AllByRecursion IsBuildablePiece parts.pieces
  pub few : length parts.pieces < 2 ^ 32
