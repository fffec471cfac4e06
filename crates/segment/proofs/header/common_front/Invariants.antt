-- The bytes so far are common.
use Rattle.std.proofs.Common.{◌≡◌, ◌+◌, drop}
use Rattle.fst_code.specs.Rules.{common}
use Rattle.segment.proofs.header.common_front.Given as goal

abbrev pub invariant-loop-i : goal.invariant-loop-i
invariant-loop-i l =
    l.i + common (drop l.i l.wanted) (drop l.i l.given) ≡ common l.wanted l.given
