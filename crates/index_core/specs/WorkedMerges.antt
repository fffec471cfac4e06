-- Merges that are worked, as their records say. Source: Lucene's IndexWriter, whose merges are
-- worked beside it.
use Rattle.std.specs.Prelude.{◌≡◌, ℕ, Option, Some, List, ◌++◌, map, filter}
use Rattle.std.specs.List.{AllByRecursion}
use Rattle.sg_paths.specs.Operations.{PlainOp, PlainNumbered}
use Rattle.segment.specs.Views.{PlainParts, AreCovered}
use Rattle.merge_work.specs.Merging.{AreMergeable, unless_empty}
use Rattle.merge_work.specs.Merging.{merged_documents as merged_of}
use Rattle.index_core.specs.Histories.{Record}
use Rattle.index_core.specs.Records.{current}
use Rattle.index_core.specs.Generations.{documents_of, is_built}
use Rattle.index_core.specs.LegalHistories.{merged_documents}
use Rattle.index_core.specs.Merges.{size_of, merge_plan}
use Rattle.index_core.specs.CurrentPieces.{IsPieceOf}
use Rattle.index_core.specs.HeldGenerations.{RisesFrom}
use Rattle.index_core.specs.Keeping.{AreHeldOnce}
use Rattle.index_core.specs.MergeCalls.{merge_of, AreMergeOf}
use Rattle.index_core.specs.PlannedMerges.{IsWithinSegment}

-- the generations hold in a later record what they held
abbrev pub HoldTheSame : Record → Record → List ℕ → Type 0
HoldTheSame r s gens = AllByRecursion (λ g. documents_of s g ≡ documents_of r g) gens

-- Parts with the pieces of the generations that the plan gives can be merged, where each segment is
-- within its limits and no document is held twice.
abbrev pub PlannedMergesCanBeWorked : Type 0
PlannedMergesCanBeWorked =
    (r : Record) (parts : PlainParts) (n : ℕ) → RisesFrom n (current r)
    → merge_plan r ≡ Some parts.generations
    → map (λ p. p.generation) parts.pieces ≡ parts.generations
    → AllByRecursion (IsPieceOf r) parts.pieces
    → AllByRecursion IsWithinSegment (map (size_of r) (filter (is_built r) (current r)))
    → AreHeldOnce r → AreMergeable parts

-- What the work of a merge brings is what each later record says that the merge keeps, if its
-- generations still hold the same.
abbrev pub WorkedMergesBring : Type 0
WorkedMergesBring =
    (r s : Record) (more : List PlainOp) (caller : ℕ) (parts : PlainParts)
    (brought : Option (List PlainNumbered)) → s.journal ≡ r.journal ++ more → AreMergeOf r parts
    → AreMergeable parts → HoldTheSame r s parts.generations
    → ((journal : List PlainOp) → AreCovered journal parts
    → brought ≡ unless_empty (merged_of journal parts))
    → brought ≡ unless_empty (merged_documents s (merge_of caller parts))
