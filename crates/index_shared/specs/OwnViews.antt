-- The views and merges that a handle has open. Source: this project's own.
use Rattle.std.specs.Prelude.{◌≡◌, ℕ, nat_eq, List, filter, Contains}
use Rattle.std.specs.List.{flat_map}
use Rattle.segment.specs.Views.{PlainParts, AreCovered, all_documents}
use Rattle.sg_view.specs.Viewing.{PlainView}
use Rattle.index_core.specs.Histories.{Record, View, Merge}
use Rattle.index_core.specs.Records.{open_views, open_merges}
use Rattle.index_core.specs.Generations.{documents_of}
use Rattle.index_core.specs.LegalHistories.{IsLegal}
use Rattle.index_core.specs.MergeCalls.{merge_of}
use Rattle.turn_lock.specs.Handles.{own}
use Rattle.index_shared.specs.Sections.{caller_of, HandleState, seen_by, FindsRecord}

-- the open views that a caller began, in the order of their begin
abbrev pub open_by : ℕ → Record → List View
open_by caller r = filter (λ v. nat_eq v.caller caller) (open_views r)

-- the open merges that a caller began, in the order of their begin
abbrev pub merges_by : ℕ → Record → List Merge
merges_by caller r = filter (λ m. nat_eq m.caller caller) (open_merges r)

-- the open view that a built one is
abbrev pub view_in : ℕ → PlainView → View
view_in caller v = record {
  caller = caller;
  view = v.number;
  upto = v.upto;
  generations = v.generations;
}

-- parts are those of a merge that the handle has open: they are of the first operations that it has
-- seen, with the documents of their generations
pub record HasMerge (h : HandleState) (parts : PlainParts) : Type 0 where
  pub legal : IsLegal (seen_by h)
  pub opened : Contains (merges_by h.number (seen_by h)) (merge_of h.number parts)
  pub covered : AreCovered h.journal parts
  pub documents : all_documents parts.pieces
      ≡ flat_map (documents_of (seen_by h)) parts.generations

-- The events of a handle in what its section finds are those that it had seen: its own calls', and
-- nobody else's.
abbrev pub OwnEventsStay : Type 0
OwnEventsStay =
    (h : HandleState) (found : Record) → FindsRecord h found
    → own caller_of h.number found.history ≡ own caller_of h.number h.history

-- The views that a handle has open stay open until it ends them, whatever others do.
abbrev pub OwnViewsStay : Type 0
OwnViewsStay =
    (h : HandleState) (found : Record) → FindsRecord h found → IsLegal found
    → open_by h.number found ≡ open_by h.number (seen_by h)

-- So do its merges.
abbrev pub OwnMergesStay : Type 0
OwnMergesStay =
    (h : HandleState) (found : Record) → FindsRecord h found → IsLegal found
    → merges_by h.number found ≡ merges_by h.number (seen_by h)
