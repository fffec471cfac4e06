-- Generations that rise are parted where they reach the one that is sought.
use Rattle.std.proofs.Common.{rules}
use Rattle.std.specs.Prelude.{nat_lt}
use Rattle.std.proofs.lemmas.List.Sorted.{IsPartitionPoint-from_clause}
use Rattle.index_holds.proofs.PlaceLemmas.{parted, parts}
use Rattle.index_holds.proofs.searching.place_of.Goals as goal

pub returns-clause-place : goal.returns-clause-place
returns-clause-place c =
    parts c.args.generation c.partition_point.result c.args.entries.now
    (IsPartitionPoint-from_clause (λ h. nat_lt h.generation c.args.generation) _ _
    c.partition_point.ensures.partitioned
    (parted c.args.generation c.args.entries.now c.requires) (λ a r q k. search rules))
