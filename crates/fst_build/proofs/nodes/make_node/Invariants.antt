-- The lowered edges so far, and room for the rest and the last one.
use Rattle.std.proofs.Common.{◌≡◌, ◌≤◌, ◌+◌, ◌-◌, ◌++◌, drop, map, length, vec_len}
use Rattle.std.specs.Vec.{vec_capacity}
use Rattle.fst_build.specs.Building.{lowered_arc}
use Rattle.fst_build.proofs.nodes.make_node.Given as goal

abbrev pub invariant-loop-edge : goal.invariant-loop-edge
invariant-loop-edge l = record {
  lowered : l.node.items ++ map (lowered_arc l.base) (drop l.edge-index l.finished)
      ≡ map (lowered_arc l.base) l.finished;
  room : vec_len l.node + (length l.finished - l.edge-index) + 1 ≤ vec_capacity l.node;
}
