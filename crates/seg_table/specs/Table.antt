-- What a table keeps. No public clause cites this module.
use Rattle.std.specs.Prelude.{◌≡◌, ◌≤◌, ℕ, length, map, List}
use Rattle.sg_paths.specs.declared.limits.TheConstants.{MOST_SEGMENT_DOCUMENTS}
use Rattle.sg_paths.specs.Operations.{PlainNumbered}
use Rattle.sg_paths.specs.AllPaths.{all_paths}
use Rattle.seg_table.specs.declared.owner.Owner.{Owner}
use Rattle.seg_table.specs.Owners.{owner_of, most_paths}
use Rattle.seg_table.specs.Ids.{id_index}

-- the owners by ordinal, the index by ids and the greatest number of paths are those of the
-- documents, of which there aren't too many
pub record IsTable (docs : List PlainNumbered) (owners : List Owner) (ids : List ℕ) (most : ℕ)
    : Type 0 where
  pub owned : owners ≡ map owner_of (all_paths docs)
  pub indexed : ids ≡ id_index docs
  pub greatest : most ≡ most_paths docs
  pub few : length docs ≤ MOST_SEGMENT_DOCUMENTS
