-- What the deletes of batches say of a journal, the list of operations whose n-th has the number n.
-- Source: Lucene's live docs, to which the deletes that came since are applied.
use Rattle.std.specs.Prelude.{◌≡◌, ◌≤◌, ℕ, ◌||◌, List}
use Rattle.sg_paths.specs.Operations.{PlainOp, PlainNumbered, PlainBatch}
use Rattle.sg_paths.specs.Batches.{Cover}
use Rattle.sg_paths.specs.LiveDocuments.{is_deleted}
use Rattle.delete_queue.specs.Deletes.{is_dead_in}

-- A document is deleted through upto exactly where it is deleted through `applied` or the batches,
-- which have the operations since, reach it.
abbrev pub DeletesSinceComplete : Type 0
DeletesSinceComplete =
    (journal : List PlainOp) (start applied upto last : ℕ) (batches : List PlainBatch)
    (d : PlainNumbered) → Cover journal start last batches
    → start ≤ applied → applied ≤ upto → upto ≤ last
    → is_deleted journal upto d
    ≡ (is_deleted journal applied d || is_dead_in applied upto batches d)
