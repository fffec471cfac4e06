-- What a view of the first operations of a record sees. Source: this project's own.
use Rattle.std.specs.Prelude.{◌≤◌, ℕ, List, length, take}
use Rattle.std.specs.List.{AllByRecursion}
use Rattle.sg_paths.specs.Operations.{PlainNumbered, documents_from}
use Rattle.sg_paths.specs.LiveDocuments.{live_documents}
use Rattle.sg_answers.specs.Reports.{ViewedSegment, live_in}
use Rattle.segment.specs.Items.{total_of, HaveSameItems}
use Rattle.index_core.specs.Histories.{Record, View}
use Rattle.sg_shell.specs.Runs.{segments_seen}

-- the items of one list are items of the other, at least as often: no sum over it is greater
abbrev pub ArePartOf : {X : Type 0} → List X → List X → Type 0
ArePartOf {X} xs ys = (f : X → ℕ) → total_of f xs ≤ total_of f ys

-- a segment of documents that were added, with no more live ones than there are
pub record IsSegmentOf (added : List PlainNumbered) (s : ViewedSegment) : Type 0 where
  pub part : ArePartOf s.documents added
  pub fewer_live : length s.live ≤ length s.documents

-- a view of a record's first operations: what it sees is of the documents that they added, and
-- together its live ones are the live documents, each once
pub record IsViewIn (r : Record) (v : View) : Type 0 where
  pub within : v.upto ≤ length r.journal
  pub same : HaveSameItems (live_in (segments_seen r v)) (live_documents r.journal v.upto)
  pub each : AllByRecursion (IsSegmentOf (documents_from 1 (take v.upto r.journal)))
      (segments_seen r v)
