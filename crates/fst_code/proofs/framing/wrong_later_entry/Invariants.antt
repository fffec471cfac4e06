-- What is left to look at decides.
use Rattle.std.proofs.Common.{◌≡◌, ◌+◌, ◌*◌, ◌-◌}
use Rattle.fst_code.specs.Bytes.{numbers_at}
use Rattle.fst_code.specs.Rules.{ends_broken}
use Rattle.fst_code.proofs.framing.wrong_later_entry.Given as goal

abbrev pub invariant-loop-id : goal.invariant-loop-id
invariant-loop-id l = ends_broken l.all (16 + 4 * l.id) l.from
    (numbers_at (l.count - l.id) (16 + 4 * l.id) l.bytes)
    ≡ ends_broken l.all 20 0 (numbers_at (l.count - 1) 20 l.bytes)
