-- The places that are out, continued by those to come, are all places.
use Rattle.std.proofs.Common.{◌≡◌, ◌++◌}
use Rattle.std.specs.Prelude.{filter}
use Rattle.delete_queue.specs.Reached.{is_before}
use Rattle.delete_queue.proofs.finding.push_all_before.Given as goal

abbrev pub invariant-loop-place : goal.invariant-loop-place
invariant-loop-place l =
    l.dead.items ++ filter (is_before l.seq l.table) l.place-iterator
    ≡ l.initial.dead.items ++ filter (is_before l.seq l.table) l.initial.place-iterator
