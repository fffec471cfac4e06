-- Which documents the deletes of batches reach. Source: Lucene's delete queue, which tells by
-- sequence numbers which documents a delete reaches.
use Rattle.std.specs.Prelude.{ℕ, ◌+◌, Bool, ◌&&◌, nat_lt, nat_le, bytes_eq, option_map}
use Rattle.std.specs.Prelude.{List, [], ◌∷◌, ◌++◌, filter}
use Rattle.std.specs.Option.{option_to_list}
use Rattle.std.specs.List.{flat_map, list_any}
use Rattle.sg_paths.specs.Operations.{PlainOp, PlainNumbered, PlainBatch, deleted_id}

-- an id that is deleted, with the number of the operation that deletes it
pub record NumberedDelete : Type 0 where
  pub seq : ℕ
  pub id : List ℕ

-- the delete that an operation with the number n is, if it is one; an update is one
abbrev pub delete_of : ℕ → PlainOp → List NumberedDelete
delete_of n operation =
    option_to_list (option_map (λ id. record { seq = n; id = id }) (deleted_id operation))

-- the deletes of operations, where the first of these has the number n
abbrev pub deletes_from : ℕ → List PlainOp → List NumberedDelete
deletes_from n [] = []
deletes_from n (operation ∷ later) = delete_of n operation ++ deletes_from (n + 1) later

-- whether the number of a delete is over `applied` and at most upto
abbrev pub is_between : ℕ → ℕ → NumberedDelete → Bool
is_between applied upto e = nat_lt applied e.seq && nat_le e.seq upto

-- the deletes of batches whose numbers are over `applied` and at most upto
abbrev pub deletes_between : ℕ → ℕ → List PlainBatch → List NumberedDelete
deletes_between applied upto batches =
    flat_map (λ b. filter (is_between applied upto) (deletes_from b.from b.operations)) batches

-- whether a delete reaches a document: by its id, where it was added before
abbrev pub reaches : PlainNumbered → NumberedDelete → Bool
reaches d e = bytes_eq d.document.id e.id && nat_lt d.seq e.seq

-- whether a delete of the batches reaches a document: one whose number is over `applied` and at
-- most upto
abbrev pub is_dead_in : ℕ → ℕ → List PlainBatch → PlainNumbered → Bool
is_dead_in applied upto batches d = list_any (reaches d) (deletes_between applied upto batches)
