-- Nothing is followed while starts are put in.
use Rattle.std.proofs.Common.{◌≡◌, None}
use Rattle.search_tests.proofs.desk.put_starts.Given as goal

abbrev pub invariant-loop-word : goal.invariant-loop-word
invariant-loop-word l = l.desk.followed ≡ None
