-- The walk so far, carried on, is the whole walk.
use Rattle.std.proofs.Common.{◌≡◌, ◌-◌, ◌+◌, ◌*◌, []}
use Rattle.fst_code.specs.Bytes.{nodes_of}
use Rattle.fst_code.specs.Rules.{postorder, from_to}
use Rattle.fst_code.specs.Numbering.{finished, completed}
use Rattle.fst_code.proofs.numbering.count_in_order.Given as goal

abbrev pub invariant-loop-outer : goal.invariant-loop-outer
invariant-loop-outer l = finished (nodes_of l.bytes) l.outer.items
    (completed (nodes_of l.bytes) l.id l.at (from_to l.next 0))
    ≡ postorder l.count (nodes_of l.bytes) (l.count - 1) []

abbrev pub decreases-loop-outer : goal.decreases-loop-outer
decreases-loop-outer l =
    ((4294967296 - l.next) * 4294967296 + l.id) * 18446744073709551616 + (18446744073709551615 - l.at)
