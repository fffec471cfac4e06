-- Operations, their numbers and the documents that they add. Source: Lucene's IndexWriter, where an
-- update deletes and adds in one operation.
use Rattle.std.specs.Prelude.{ℕ, ◌+◌, Option, Some, None, option_map, List, [], ◌∷◌, ◌++◌}
use Rattle.std.specs.Option.{option_to_list}
use Rattle.sg_paths.specs.declared.op.Op.{Op}
use Rattle.sg_paths.specs.declared.op.Op.TheVariants.{Add, Update, Delete}
use Rattle.sg_paths.specs.Documents.{PlainDocument}

-- what the index is asked to do
pub data PlainOp : Type 0 where
  adds : PlainDocument → PlainOp
  updates : PlainDocument → PlainOp
  deletes : List ℕ → PlainOp

-- an `Op` as plain data
abbrev pub plain_op : Op → PlainOp
plain_op (Add document) = adds document
plain_op (Update document) = updates document
plain_op (Delete id) = deletes id

-- the document that it adds, if it adds one
abbrev pub added_document : PlainOp → Option PlainDocument
added_document (adds document) = Some document
added_document (updates document) = Some document
added_document (deletes id) = None

-- the id of the documents that it deletes, if it deletes any
abbrev pub deleted_id : PlainOp → Option (List ℕ)
deleted_id (adds document) = None
deleted_id (updates document) = Some document.id
deleted_id (deletes id) = Some id

-- a document with the number of the operation that added it
pub record PlainNumbered : Type 0 where
  pub seq : ℕ
  pub document : PlainDocument

-- the documents that operations add, where the first of these has the number n
abbrev pub documents_from : ℕ → List PlainOp → List PlainNumbered
documents_from n [] = []
documents_from n (operation ∷ later) =
    option_to_list (option_map (λ d. record { seq = n; document = d }) (added_document operation))
    ++ documents_from (n + 1) later

-- consecutive operations with the numbers of the first and the last
pub record PlainBatch : Type 0 where
  pub from : ℕ
  pub upto : ℕ
  pub operations : List PlainOp
