-- What an offer keeps between its critical sections. No public clause cites this module.
use Rattle.std.specs.Prelude.{◌≡◌, ◌≤◌, ◌⊎◌, ℕ, Bool, true, List, ◌++◌, length}
use Rattle.std.specs.List.{AllByRecursion}
use Rattle.sg_paths.specs.Operations.{PlainNumbered, PlainBatch}
use Rattle.segment.specs.Pieces.{PlainPiece, piece_documents, live_docs_at}
use Rattle.segment.specs.Views.{PlainParts, IsBuildablePiece}
use Rattle.piece_docs.specs.PieceDocs.{live_docs_less}
use Rattle.index_core.specs.Histories.{HistoryEvent, Record, is_among}
use Rattle.index_core.specs.Records.{frozen, drawn, open_views, open_merges}
use Rattle.index_core.specs.Generations.{documents_of}
use Rattle.index_core.specs.LegalHistories.{IsLegal}
use Rattle.index_core.specs.Calls.{after_freeze}
use Rattle.index_core.specs.CurrentPieces.{is_segment}
use Rattle.index_shared.specs.Sections.{caller_of, HandleState, seen_by, having, FindsRecord}
use Rattle.index_shared.specs.Sections.{IsSameHandle}
use Rattle.index_shared.specs.OwnViews.{open_by, merges_by, HasMerge}
use Rattle.index_shared.specs.Offers.{IsUpkeep, UpkeepAlone, IsUpToDate}

-- a record with at most so many events more, all of a flush and of one caller: what is open stays
pub record IsTended (caller most : ℕ) (r later : Record) : Type 0 where
  pub events : List HistoryEvent
  pub history_is : later.history ≡ r.history ++ events
  pub journal_is : later.journal ≡ r.journal
  pub few : length events ≤ most
  pub by : AllByRecursion (λ e. caller_of e ≡ caller) events
  pub upkeep : AllByRecursion IsUpkeep events
  pub views : open_views later ≡ open_views r
  pub merges : open_merges later ≡ open_merges r

-- a handle that has seen more: of its own events those of a flush alone, with the same views and
-- merges of its own
pub record Tends (h h' : HandleState) : Type 0 where
  pub same : IsSameHandle h h'
  pub upkeep : UpkeepAlone h (seen_by h')
  pub views : open_by h.number (seen_by h') ≡ open_by h.number (seen_by h)
  pub merges : merges_by h.number (seen_by h') ≡ merges_by h.number (seen_by h)
  pub keeps : (parts : PlainParts) → HasMerge h parts → HasMerge h' parts
  pub legal : IsLegal (seen_by h')

-- what is buffered was frozen, in what a critical section found
pub record Froze (h : HandleState) (seen : Record) : Type 0 where
  pub found : Record
  pub finds : FindsRecord h found
  pub legal : IsLegal found
  pub after : seen ≡ after_freeze h.number found

-- the first section stopped: it changed nothing, or froze what was buffered
pub record FreezeStopped (h h' : HandleState) : Type 0 where
  pub found : Record
  pub finds : FindsRecord h found
  pub legal : IsLegal found
  pub after : (h' ≡ having h found) ⊎ (h' ≡ having h (after_freeze h.number found))

-- these documents with these live docs are what a generation gets
pub record Fits (r : Record) (upto g : ℕ) (documents : List PlainNumbered) (live : List Bool)
    : Type 0 where
  pub is_drawn : is_among g (drawn r) ≡ true
  pub within : upto ≤ frozen r
  pub holds : documents ≡ documents_of r g
  pub live_docs : live ≡ live_docs_at r.journal upto documents

-- A piece, with batches, is what its generation is refreshed of: it has the documents, and the
-- batches have the deletes up to upto that its live docs miss. Where it misses nothing, the
-- generation is up to date.
pub record IsReady (r : Record) (upto : ℕ) (batches : List PlainBatch) (p : PlainPiece)
    : Type 0 where
  pub fits : Fits r upto p.generation (piece_documents p) (live_docs_less upto batches p)
  pub done : is_segment p.body ≡ true → upto ≤ p.applied → IsUpToDate r upto p.generation
  pub buildable : IsBuildablePiece p
