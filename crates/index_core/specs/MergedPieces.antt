-- The current pieces where merges begin and end. Source: Lucene's IndexWriter, which replaces the
-- segments of a merge by the one that it wrote.
use Rattle.std.specs.Prelude.{◌≡◌, ◌≤◌, ℕ, false, Some, None, List, [], ◌∷◌, length}
use Rattle.std.specs.List.{AllByRecursion, filter_map}
use Rattle.sg_paths.specs.Operations.{PlainNumbered, documents_from}
use Rattle.segment.specs.Pieces.{segment, PlainPiece}
use Rattle.index_core.specs.Histories.{HistoryEvent, merge_begin, merge_end, merge_drop, Record}
use Rattle.index_core.specs.Histories.{Merge, is_among, ended_merge, frozen_upto, drawn_generation}
use Rattle.index_core.specs.Histories.{built_generation}
use Rattle.index_core.specs.Records.{with_event, frozen, current, next_merge}
use Rattle.index_core.specs.Generations.{applied_by}
use Rattle.index_core.specs.LegalHistories.{merged_documents}
use Rattle.index_core.specs.EndedMerges.{HasKnownMerges, BeginsNextMerge, IsBegunMerge, holding}
use Rattle.index_core.specs.EndedMerges.{merged_pieces}
use Rattle.index_core.specs.HeldGenerations.{RisesFrom}
use Rattle.index_core.specs.HeldEvents.{AreDrawn, AreInUse}
use Rattle.index_core.specs.Keeping.{AreCurrent}

-- an event that freezes, draws, builds and applies nothing, and replaces nothing
pub record LeavesPieces (r : Record) (e : HistoryEvent) : Type 0 where
  pub next : BeginsNextMerge r e
  pub freezes : frozen_upto e ≡ None
  pub draws : drawn_generation e ≡ None
  pub builds : built_generation e ≡ None
  pub applies : (g : ℕ) → applied_by (with_event r e) g e ≡ None
  pub same : current (with_event r e) ≡ current r

-- a merge may end in a generation: it was begun, its generations are current, rising, and hold each
-- document once, and its operations are frozen
pub record IsEnding (r : Record) (m : Merge) (into : ℕ) : Type 0 where
  pub begun : IsBegunMerge r m into
  pub least : 1 ≤ into
  pub in_use : AreInUse r m.generations
  pub rising : RisesFrom 0 m.generations
  pub one : AllByRecursion (λ d. holding r d (current r) ≤ 1) (documents_from 1 r.journal)
  pub upto_frozen : m.upto ≤ frozen r
  pub frozen_within : frozen r ≤ length r.journal
  pub were_drawn : AreDrawn r

-- the piece that a merge brings: its documents are live through the operations of the merge
abbrev pub brought_piece : Merge → ℕ → List PlainNumbered → PlainPiece
brought_piece m into documents = record {
  generation = into;
  body = segment documents;
  live_docs = None;
  applied = m.upto;
}

-- The current pieces stay what the record says where a merge begins or is dropped; where one ends,
-- its pieces give way to the one with the documents that it keeps, or to none where it keeps none.
pub record MergesKeepPieces : Type 0 where
  pub leaves : (r : Record) (e : HistoryEvent) (pieces : List PlainPiece) → HasKnownMerges r
      → LeavesPieces r e → AreCurrent r pieces → AreCurrent (with_event r e) pieces
  pub begins : (r : Record) (caller : ℕ) (gens : List ℕ) → (is_among (next_merge r)
      (filter_map ended_merge r.history) ≡ false)
      → LeavesPieces r (merge_begin caller (next_merge r) gens)
  pub drops : (r : Record) (caller merge : ℕ) → LeavesPieces r (merge_drop caller merge)
  pub ends : (r : Record) (caller : ℕ) (m : Merge) (into : ℕ) (gone : List ℕ)
      (documents : List PlainNumbered) (pieces : List PlainPiece) → IsEnding r m into
      → documents ≡ merged_documents r m → AreCurrent r pieces
      → AreCurrent (with_event r (merge_end caller m.merge (Some into) gone))
      (merged_pieces m.generations (brought_piece m into documents ∷ []) pieces)
  pub ends_empty : (r : Record) (caller : ℕ) (m : Merge) (into : ℕ) (gone : List ℕ)
      (pieces : List PlainPiece) → IsEnding r m into → merged_documents r m ≡ []
      → AreCurrent r pieces
      → AreCurrent (with_event r (merge_end caller m.merge None gone))
      (merged_pieces m.generations [] pieces)
