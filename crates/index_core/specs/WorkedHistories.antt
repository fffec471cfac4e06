-- Worked values of what a record says of its generations, of merges, of the events that may come
-- next, and of what is merged. Source: this project's own.
use Rattle.std.specs.Prelude.{◌≡◌, ℕ, true, false, Some, None, List, [], ◌∷◌, ◌++◌, codes}
use Rattle.sg_paths.specs.Documents.{PlainSuggestion, PlainDocument}
use Rattle.sg_paths.specs.Operations.{PlainOp, adds, deletes, PlainNumbered}
use Rattle.index_core.specs.Histories.{HistoryEvent, accept, freeze, begin, built}
use Rattle.index_core.specs.Histories.{live_docs_updated, merge_begin, merge_end, merge_drop}
use Rattle.index_core.specs.Histories.{view_end, Record, Merge}
use Rattle.index_core.specs.Records.{accepted, frozen, buffered, current, open_merges, released}
use Rattle.index_core.specs.Generations.{documents_of, applied, is_built}
use Rattle.index_core.specs.Merges.{size_of, merge_plan}
use Rattle.index_core.specs.LegalHistories.{merged_documents, merged_generation, MeetsLine}
use Rattle.index_core.specs.LegalHistories.{first_events}

-- a document of one suggestion, without a context
abbrev document : List ℕ → PlainDocument
document id =
    let suggestion : PlainSuggestion =
    record { text = codes "Paris"; key = codes "paris"; weight = 10; contexts = [] } in
    record { id = id; suggestions = suggestion ∷ [] }

-- three documents by number
abbrev first : PlainNumbered
first = record { seq = 1; document = document (codes "a") }

-- the second
abbrev second : PlainNumbered
second = record { seq = 2; document = document (codes "b") }

-- the third
abbrev third : PlainNumbered
third = record { seq = 3; document = document (codes "c") }

-- the three are added, and frozen as generation 1
abbrev added_events : List HistoryEvent
added_events = accept 0 1 ∷ accept 0 2 ∷ accept 0 3 ∷ freeze 0 1 1 3 ∷ []

-- their operations
abbrev added_journal : List PlainOp
added_journal =
    adds (document (codes "a")) ∷ adds (document (codes "b")) ∷ adds (document (codes "c")) ∷ []

-- after the adds
abbrev added : Record
added = record { history = added_events; journal = added_journal }

-- then two are deleted, in a generation of deletes alone
abbrev deleted_events : List HistoryEvent
deleted_events =
    added_events
    ++ built 0 1 ∷ accept 0 4 ∷ accept 0 5 ∷ freeze 0 2 4 5 ∷ built 0 2 ∷ []

-- with their operations
abbrev deleted_journal : List PlainOp
deleted_journal = added_journal ++ deletes (codes "a") ∷ deletes (codes "b") ∷ []

-- after the deletes, of which generation 1 knows nothing yet
abbrev deleted : Record
deleted = record { history = deleted_events; journal = deleted_journal }

-- once it knows them
abbrev known : Record
known =
    record { history = deleted_events ++ live_docs_updated 0 1 5 ∷ []; journal = deleted_journal }

-- its merge has begun, and then the third document is deleted: a late delete
abbrev merging_events : List HistoryEvent
merging_events =
    deleted_events
    ++ live_docs_updated 0 1 5 ∷ merge_begin 0 1 (1 ∷ []) ∷ accept 0 6 ∷ freeze 0 3 6 6 ∷ []

-- with its operation
abbrev late_journal : List PlainOp
late_journal = deleted_journal ++ deletes (codes "c") ∷ []

-- while it merges
abbrev pub merging : Record
merging = record { history = merging_events; journal = late_journal }

-- the merge
abbrev pub merge : Merge
merge = record { caller = 0; merge = 1; upto = 5; generations = 1 ∷ [] }

-- once it has ended, in generation 4
abbrev merged : Record
merged =
    record {
      history = merging_events ++ merge_end 0 1 (Some 4) (1 ∷ []) ∷ [];
      journal = late_journal;
    }

-- while a view holds generation 1 too
abbrev viewed_events : List HistoryEvent
viewed_events = merging_events ++ begin 0 1 6 (1 ∷ 2 ∷ 3 ∷ []) ∷ []

-- while it merges and a view is open
abbrev viewed : Record
viewed = record { history = viewed_events; journal = late_journal }

-- once it has ended under that view
abbrev merged_under_view : Record
merged_under_view =
    record {
      history = viewed_events ++ merge_end 0 1 (Some 4) [] ∷ [];
      journal = late_journal;
    }

-- a document that is added while generation 1 is merged, in two contexts
abbrev sixth : PlainNumbered
sixth =
    let suggestion : PlainSuggestion =
    record {
      text = codes "Prague";
      key = codes "prague";
      weight = 10;
      contexts = codes "travel" ∷ codes "music" ∷ [];
    } in
    record { seq = 6; document = record { id = codes "d"; suggestions = suggestion ∷ [] } }

-- generation 3 holds it, and the merged generation 4 an earlier one
abbrev crossed_events : List HistoryEvent
crossed_events = merging_events ++ built 0 3 ∷ merge_end 0 1 (Some 4) (1 ∷ []) ∷ []

-- once the merge has ended behind it
abbrev crossed : Record
crossed =
    record { history = crossed_events; journal = deleted_journal ++ adds sixth.document ∷ [] }

-- a merge of both
abbrev crossed_merge : Merge
crossed_merge = record { caller = 0; merge = 2; upto = 6; generations = 3 ∷ 4 ∷ [] }

-- the third document is deleted before the merge begins: none is left
abbrev emptying_events : List HistoryEvent
emptying_events =
    deleted_events
    ++ accept 0 6 ∷ freeze 0 3 6 6 ∷ live_docs_updated 0 1 6 ∷ merge_begin 0 1 (1 ∷ []) ∷ []

-- while that merge is open
abbrev emptying : Record
emptying = record { history = emptying_events; journal = late_journal }

-- the merge
abbrev emptying_merge : Merge
emptying_merge = record { caller = 0; merge = 1; upto = 6; generations = 1 ∷ [] }

-- once it has ended, without a generation
abbrev emptied : Record
emptied =
    record {
      history = emptying_events ++ merge_end 0 1 None (1 ∷ []) ∷ [];
      journal = late_journal;
    }

-- what the record says of adds and deletes
pub record AddsAndDeletes : Type 0 where
  pub counts : (accepted deleted ≡ 5) × (frozen deleted ≡ 5) × (buffered deleted ≡ 0)
  pub generations : current deleted ≡ 1 ∷ 2 ∷ []
  pub documents : documents_of deleted 1 ≡ first ∷ second ∷ third ∷ []
  pub deletes_hold_none : documents_of deleted 2 ≡ []
  pub segments : (is_built added 1 ≡ false) × (is_built deleted 1 ≡ true)
  pub deletes_applied : (applied deleted 1 ≡ 0) × (applied deleted 2 ≡ 3) × (applied known 1 ≡ 5)
  pub unknown_deletes : size_of deleted 1
      ≡ record { generation = 1; documents = 3; live = 3; paths = 3; held = false }
  pub known_deletes : size_of known 1
      ≡ record { generation = 1; documents = 3; live = 1; paths = 3; held = false }
  pub nothing_to_merge : merge_plan deleted ≡ None
  pub mostly_deleted : merge_plan known ≡ Some (1 ∷ [])

-- what it says of a merge that a late delete doesn't reach
pub record MergesWithALateDelete : Type 0 where
  pub is_open : open_merges merging ≡ merge ∷ []
  pub is_held : size_of merging 1
      ≡ record { generation = 1; documents = 3; live = 1; paths = 3; held = true }
  pub nothing_else : merge_plan merging ≡ None
  pub keeps : merged_documents merging merge ≡ third ∷ []
  pub into : merged_generation merging merge ≡ Some 4
  pub replaced : (current merged ≡ 2 ∷ 3 ∷ 4 ∷ []) × (open_merges merged ≡ [])
  pub documents : documents_of merged 4 ≡ third ∷ []
  pub state : (is_built merged 4 ≡ true) × (applied merged 4 ≡ 5)
  pub released_by_merge : released merging (merge_end 0 1 (Some 4) []) ≡ 1 ∷ []
  pub held_by_view : released viewed (merge_end 0 1 (Some 4) []) ≡ []
  pub released_by_view : released merged_under_view (view_end 0 1 []) ≡ 1 ∷ []
  pub dropped : released merging (merge_drop 0 1) ≡ []

-- what it says of a merged generation that holds an earlier document than a lesser one
pub record MergesByNumber : Type 0 where
  pub holds : (documents_of crossed 3 ≡ sixth ∷ []) × (documents_of crossed 4 ≡ third ∷ [])
  pub keeps : merged_documents crossed crossed_merge ≡ third ∷ sixth ∷ []
  pub into : merged_generation crossed crossed_merge ≡ Some 5
  pub two_contexts : size_of crossed 3
      ≡ record { generation = 3; documents = 1; live = 1; paths = 2; held = false }

-- what it says of a merge that keeps no document
pub record MergesToNone : Type 0 where
  pub keeps : merged_documents emptying emptying_merge ≡ []
  pub into : merged_generation emptying emptying_merge ≡ None
  pub replaced : (current emptied ≡ 2 ∷ 3 ∷ []) × (open_merges emptied ≡ [])

-- the events of the worked records may come where they do
pub record EventsMeetTheirLines : Type 0 where
  pub is_built : MeetsLine (first_events 4 merged) (built 0 1)
  pub learns_deletes : MeetsLine deleted (live_docs_updated 0 1 5)
  pub merge_begins : MeetsLine known (merge_begin 0 1 (1 ∷ []))
  pub merge_ends : MeetsLine merging (merge_end 0 1 (Some 4) (1 ∷ []))
  pub merge_ends_under_view : MeetsLine viewed (merge_end 0 1 (Some 4) [])
  pub merge_ends_empty : MeetsLine emptying (merge_end 0 1 None (1 ∷ []))
  pub merge_is_dropped : MeetsLine merging (merge_drop 0 1)

-- and others may not: a generation that isn't drawn, or built already; deletes that it knows, that
-- aren't frozen, or before it is built; a merge that isn't planned so; another caller's merge, and
-- one that isn't open; a live document lost, and a generation released that a view holds
pub record EventsMissTheirLines : Type 0 where
  pub built_before_drawn : MeetsLine deleted (built 0 3) → ⊥
  pub built_twice : MeetsLine deleted (built 0 1) → ⊥
  pub known_deletes : MeetsLine known (live_docs_updated 0 1 5) → ⊥
  pub unfrozen_deletes : MeetsLine deleted (live_docs_updated 0 1 6) → ⊥
  pub without_segment : MeetsLine added (live_docs_updated 0 1 3) → ⊥
  pub not_planned : MeetsLine deleted (merge_begin 0 1 (1 ∷ [])) → ⊥
  pub planned_otherwise : MeetsLine known (merge_begin 0 1 (1 ∷ 2 ∷ [])) → ⊥
  pub another_number : MeetsLine known (merge_begin 0 2 (1 ∷ [])) → ⊥
  pub ended_by_another : MeetsLine merging (merge_end 1 1 (Some 4) (1 ∷ [])) → ⊥
  pub ended_unopened : MeetsLine known (merge_end 0 1 (Some 3) (1 ∷ [])) → ⊥
  pub a_document_lost : MeetsLine merging (merge_end 0 1 None (1 ∷ [])) → ⊥
  pub released_early : MeetsLine viewed (merge_end 0 1 (Some 4) (1 ∷ [])) → ⊥
  pub dropped_by_another : MeetsLine merging (merge_drop 1 1) → ⊥
  pub dropped_unopened : MeetsLine known (merge_drop 0 1) → ⊥
  pub dropped_twice : MeetsLine merged (merge_drop 0 1) → ⊥

-- all of them
pub record WorkedHistories : Type 0 where
  pub adds_and_deletes : AddsAndDeletes
  pub late_delete : MergesWithALateDelete
  pub by_number : MergesByNumber
  pub to_none : MergesToNone
  pub next : EventsMeetTheirLines
  pub not_next : EventsMissTheirLines
