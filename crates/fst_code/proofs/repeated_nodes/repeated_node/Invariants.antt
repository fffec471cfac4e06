-- The nodes so far are in chains, and what is left decides.
use Rattle.std.proofs.Common.{◌≡◌, length, get_or, take, drop, []}
use Rattle.fst_code.specs.Bytes.{nodes_of}
use Rattle.sg_base.specs.Chains.{Chained, bucket_in}
use Rattle.fst_code.specs.Rules.{repeated}
use Rattle.fst_code.proofs.repeated_nodes.repeated_node.Given as goal

abbrev pub invariant-loop-id : goal.invariant-loop-id
invariant-loop-id l = record {
  heads : length l.heads.items ≡ l.buckets;
  cells : length l.chain.items ≡ l.count;
  chained : Chained l.heads.items (λ i. get_or l.chain.items i 0)
      (bucket_in l.buckets (nodes_of l.bytes)) l.id;
  rest : repeated l.id (take l.id (nodes_of l.bytes)) (drop l.id (nodes_of l.bytes))
      ≡ repeated 0 [] (nodes_of l.bytes);
}
