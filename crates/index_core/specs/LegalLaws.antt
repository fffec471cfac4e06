-- What holds of every legal record, whatever was frozen and merged. Source: Lucene's point-in-time
-- readers, and its IndexFileDeleter.
use Rattle.std.specs.Prelude.{◌≡◌, ◌≤◌, ◌*◌, ℕ, true, false, not, List, ◌++◌, length, filter}
use Rattle.std.specs.List.{AllByRecursion, flat_map}
use Rattle.sg_paths.specs.Operations.{PlainOp, PlainNumbered, documents_from}
use Rattle.sg_paths.specs.LiveDocuments.{is_deleted, live_documents}
use Rattle.segment.specs.Items.{HaveSameItems}
use Rattle.segment.specs.Views.{PlainParts, AreParts}
use Rattle.index_core.specs.declared.limits.TheConstants.{MOST_OPERATIONS}
use Rattle.index_core.specs.Histories.{HistoryEvent, Record, View, is_among, begun_views}
use Rattle.index_core.specs.Records.{with_event, frozen, drawn, current, open_merges}
use Rattle.index_core.specs.Records.{is_referenced, released}
use Rattle.index_core.specs.Generations.{documents_of}
use Rattle.index_core.specs.LegalHistories.{first_events, IsLegal}
use Rattle.index_core.specs.EndedMerges.{holding}

-- the documents of generations that the first upto operations don't delete
abbrev pub live_in : Record → ℕ → List ℕ → List PlainNumbered
live_in r upto gens =
    filter (λ d. not (is_deleted r.journal upto d)) (flat_map (documents_of r) gens)

-- a view sees its prefix: what is live of its generations' documents is what is live after its
-- operations, each document once
pub record SeesItsPrefix (r : Record) (v : View) : Type 0 where
  pub within : v.upto ≤ length r.journal
  pub same : HaveSameItems (live_in r v.upto v.generations) (live_documents r.journal v.upto)

-- Each view sees its prefix, whatever came after its begin.
abbrev pub ViewsSeeTheirPrefix : Type 0
ViewsSeeTheirPrefix =
    (r : Record) → IsLegal r → AllByRecursion (SeesItsPrefix r) (begun_views r.history)

-- What is live of the current generations' documents is what is live after all that is frozen, and
-- each document is held by at most one of them.
pub record CurrentGenerationsHaveAll : Type 0 where
  pub live : (r : Record) → IsLegal r
      → HaveSameItems (live_in r (frozen r) (current r)) (live_documents r.journal (frozen r))
  pub once : (r : Record) → IsLegal r
      → AllByRecursion (λ d. holding r d (current r) ≤ 1) (documents_from 1 r.journal)

-- A generation holds what it held after the first k events, once it was drawn.
abbrev pub GenerationsKeepTheirDocuments : Type 0
GenerationsKeepTheirDocuments =
    (r : Record) (k g : ℕ) → IsLegal r → k ≤ length r.history
    → is_among g (drawn (first_events k r)) ≡ true
    → documents_of r g ≡ documents_of (first_events k r) g

-- What is released isn't referenced, and never again: no view and no merge gets it.
pub record ReleasedStayReleased : Type 0 where
  pub unheld : (r : Record) (e : HistoryEvent)
      → AllByRecursion (λ g. is_referenced (with_event r e) g ≡ false) (released r e)
  pub forever : (r : Record) (k g : ℕ) → IsLegal r → k ≤ length r.history
      → is_among g (drawn (first_events k r)) ≡ true
      → is_referenced (first_events k r) g ≡ false → is_referenced r g ≡ false

-- The parts of a view are those of each longer journal: who builds of them later builds the same.
abbrev pub PartsStay : Type 0
PartsStay =
    (journal more : List PlainOp) (parts : PlainParts) → AreParts journal parts
    → AreParts (journal ++ more) parts

-- Generations don't run out, however often is merged: at most three are drawn for each operation
-- that is frozen, and no more merges are open than generations are current.
pub record GenerationsAreFew : Type 0 where
  pub three_for_each : (r : Record) → IsLegal r → length (drawn r) ≤ 3 * frozen r
  pub most : (r : Record) → IsLegal r → length (drawn r) ≤ 3 * MOST_OPERATIONS
  pub merges : (r : Record) → IsLegal r → length (open_merges r) ≤ length (current r)
