-- What the merge plan gives: generations that are free, and whose documents fit into one segment.
-- Source: Lucene's merge policies; the limits are this project's own.
use Rattle.std.specs.Prelude.{◌≡◌, ◌≤◌, ℕ, true, false, nat_eq, Some, List, length, map, filter}
use Rattle.std.specs.Prelude.{sum_by, count_by}
use Rattle.std.specs.List.{AllByRecursion, flat_map, list_any}
use Rattle.sg_paths.specs.declared.limits.TheConstants.{MOST_SEGMENT_DOCUMENTS}
use Rattle.sg_paths.specs.declared.limits.TheConstants.{MOST_SEGMENT_PATHS}
use Rattle.sg_paths.specs.Paths.{paths}
use Rattle.merge_plan.specs.declared.size.Size.{Size}
use Rattle.index_core.specs.Histories.{Record, is_among}
use Rattle.index_core.specs.Records.{current, open_merges}
use Rattle.index_core.specs.Generations.{documents_of, is_built}
use Rattle.index_core.specs.Merges.{size_of, merge_plan}
use Rattle.index_core.specs.HeldGenerations.{RisesFrom}
use Rattle.index_core.specs.HeldEvents.{AreInUse}
use Rattle.index_core.specs.Keeping.{AreHeldOnce}

-- generations that may be merged: current, built, in no open merge, rising
pub record IsPlanned (r : Record) (gens : List ℕ) : Type 0 where
  pub in_use : AreInUse r gens
  pub built : AllByRecursion (λ g. is_built r g ≡ true) gens
  pub free : AllByRecursion (λ g. list_any (λ m. is_among g m.generations) (open_merges r) ≡ false)
      gens
  pub rising : RisesFrom 0 gens

-- generations whose documents, deleted ones too, fit into one segment: one to ten; their documents
-- have different numbers, and are together within a segment's limits
pub record FitOneSegment (r : Record) (gens : List ℕ) : Type 0 where
  pub planned : IsPlanned r gens
  pub some : 1 ≤ length gens
  pub few : length gens ≤ 10
  pub numbers : (n : ℕ) → count_by (λ d. nat_eq d.seq n) (flat_map (documents_of r) gens) ≤ 1
  pub documents : length (flat_map (documents_of r) gens) ≤ MOST_SEGMENT_DOCUMENTS
  pub paths : sum_by (λ d. length (paths d.document)) (flat_map (documents_of r) gens)
      ≤ MOST_SEGMENT_PATHS

-- a generation is within a segment's limits, by its size
abbrev pub IsWithinSegment : Size → Type 0
IsWithinSegment s = (s.documents ≤ MOST_SEGMENT_DOCUMENTS) × (s.paths ≤ MOST_SEGMENT_PATHS)

-- What the plan gives fits into one segment, where each generation does and no document is held
-- twice.
abbrev pub PlannedMergesFit : Type 0
PlannedMergesFit =
    (r : Record) (gens : List ℕ) → merge_plan r ≡ Some gens → RisesFrom 0 (current r)
    → AllByRecursion IsWithinSegment (map (size_of r) (filter (is_built r) (current r)))
    → AreHeldOnce r → FitOneSegment r gens
