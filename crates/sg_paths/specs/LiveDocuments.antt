-- Deleted and live documents of a journal, the list of operations whose n-th has the number n.
-- Source: Lucene's live docs, where a delete reaches only documents that were added before it.
use Rattle.std.specs.Prelude.{◌≡◌, ℕ, ◌+◌, ◌<◌, Bool, false, not, List, [], ◌∷◌, ◌++◌}
use Rattle.std.specs.Prelude.{length, filter, take, drop, bytes_eq}
use Rattle.std.specs.Option.{option_map_or}
use Rattle.std.specs.List.{list_any}
use Rattle.sg_paths.specs.Documents.{PlainDocument}
use Rattle.sg_paths.specs.Operations.{PlainOp, updates, deleted_id, PlainNumbered}
use Rattle.sg_paths.specs.Operations.{documents_from}

-- whether the operation deletes the documents with this id
abbrev pub deletes_id : List ℕ → PlainOp → Bool
deletes_id id operation = option_map_or (bytes_eq id) (deleted_id operation) false

-- whether an operation after the document's own, and at most the upto-th, deletes its id
abbrev pub is_deleted : List PlainOp → ℕ → PlainNumbered → Bool
is_deleted journal upto d = list_any (deletes_id d.document.id) (drop d.seq (take upto journal))

-- the document that an operation adds, where no later one deletes it
abbrev pub live_of : ℕ → PlainOp → List PlainOp → List PlainNumbered
live_of seq operation later =
    filter (λ d. not (list_any (deletes_id d.document.id) later))
    (documents_from seq (operation ∷ []))

-- the documents that the first upto operations add, by number, less the deleted ones
abbrev pub live_documents : List PlainOp → ℕ → List PlainNumbered
live_documents journal upto =
    filter (λ d. not (is_deleted journal upto d)) (documents_from 1 (take upto journal))

-- An operation has no say over documents with its own or a greater number: whatever else stands in
-- its place, they are deleted or not as before.
abbrev pub ReachesEarlierDocumentsOnly : Type 0
ReachesEarlierDocumentsOnly =
    (before after : List PlainOp) (one other : PlainOp) (upto : ℕ) (d : PlainNumbered)
    → length before < d.seq
    → is_deleted (before ++ one ∷ after) upto d ≡ is_deleted (before ++ other ∷ after) upto d

-- Of the documents with its id that an update could reach, and its own, its own alone is live.
abbrev pub LeavesItsOwnDocumentAlone : Type 0
LeavesItsOwnDocumentAlone =
    (before : List PlainOp) (document : PlainDocument)
    → filter (λ d. bytes_eq d.document.id document.id)
    (live_documents (before ++ updates document ∷ []) (length before + 1))
    ≡ record { seq = length before + 1; document = document } ∷ []
