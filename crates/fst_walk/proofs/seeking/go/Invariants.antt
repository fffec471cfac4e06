-- The spot under the labels that were read.
use Rattle.std.proofs.Common.{◌≤◌, ◌+◌, ◌++◌, ℕ, List, take}
use Rattle.fst_code.specs.Bytes.{nodes_of}
use Rattle.fst_walk.specs.Spots.{IsSpot}
use Rattle.fst_walk.proofs.seeking.go.Given as goal

abbrev pub invariant-loop-label : goal.invariant-loop-label
invariant-loop-label g l = record {
  at : (front : List ℕ) → IsSpot (nodes_of l.t) front l.fn.from
      → IsSpot (nodes_of l.t) (front ++ take l.label-index l.bytes) l.spot;
  ticks : l.steps ≤ l.initial.steps + l.label-index;
}
