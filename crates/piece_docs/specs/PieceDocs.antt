-- The live docs of a piece up to an operation. Source: Lucene's live docs, to which the deletes
-- that came since are applied.
use Rattle.std.specs.Prelude.{ℕ, Bool, List}
use Rattle.sg_paths.specs.Operations.{PlainBatch}
use Rattle.seg_live.specs.LiveDocs.{live_without}
use Rattle.seg_table.specs.Ids.{places_from}
use Rattle.segment.specs.Pieces.{PlainPiece, piece_documents, live_docs_or_all}
use Rattle.delete_queue.specs.Deletes.{is_dead_in}

-- the live docs of a piece, less the documents that batches delete, up to upto
abbrev pub live_docs_less : ℕ → List PlainBatch → PlainPiece → List Bool
live_docs_less upto batches p =
    live_without 0 (places_from 0 (is_dead_in p.applied upto batches) (piece_documents p))
    (live_docs_or_all (piece_documents p) p.live_docs)
