-- The builder has the rows so far.
use Rattle.std.proofs.Common.{◌≡◌, take, map}
use Rattle.fst_tests.specs.Rows.{tail_of}
use Rattle.fst_tests.proofs.rows.transducer_of.Given as goal

abbrev pub invariant-loop-at : goal.invariant-loop-at
invariant-loop-at l = l.builder ≡ map tail_of (take l.at l.rows)
