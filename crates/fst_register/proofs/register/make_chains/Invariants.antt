-- The nodes so far are in chains.
use Rattle.std.proofs.Common.{◌≡◌, length, get_or}
use Rattle.sg_base.specs.Chains.{Chained, bucket_in}
use Rattle.fst_register.proofs.register.make_chains.Given as goal

abbrev pub invariant-loop-id : goal.invariant-loop-id
invariant-loop-id l = record {
  buckets : length l.heads.items ≡ l.buckets;
  chained : Chained l.heads.items (λ i. get_or l.chain i 0) (bucket_in l.buckets l.nodes) l.id;
}
