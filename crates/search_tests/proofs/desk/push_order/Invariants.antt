-- Nothing is followed between two entries, and fewer are left.
use Rattle.std.proofs.Common.{◌≡◌, None, length}
use Rattle.search_tests.proofs.desk.push_order.Given as goal

abbrev pub invariant-loop-entry : goal.invariant-loop-entry
invariant-loop-entry l = l.desk.followed ≡ None

abbrev pub decreases-loop-entry : goal.decreases-loop-entry
decreases-loop-entry l = length l.desk.waiting
