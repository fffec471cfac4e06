-- Numbers that don't fall are parted where they reach the one that is sought.
use Rattle.std.proofs.Common.{rules}
use Rattle.std.specs.Prelude.{nat_lt}
use Rattle.std.proofs.lemmas.List.Sorted.{IsPartitionPoint-from_clause, IsPartitionedBy-ltb}
use Rattle.sg_answers.proofs.NumberLemmas.{parted}
use Rattle.sg_answers.proofs.numbered_ref.place_of.Goals as goal

pub returns : goal.returns
returns c =
    parted c.args.seq c.partition_point.result c.args.documents.now
    (IsPartitionPoint-from_clause (λ d. nat_lt d.seq c.args.seq) _ _
    c.partition_point.ensures.partitioned
    (IsPartitionedBy-ltb (λ d. d.seq) c.args.documents.now c.args.seq c.requires)
    (λ a r q k. search rules))
