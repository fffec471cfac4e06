-- What was taken stands in the input, and no fault was met.
use Rattle.std.proofs.Common.{◌≡◌, ◌≤◌, ◌-◌, ◌^◌, vec_len}
use Rattle.sg_edge.specs.Edge.{in_front}
use Rattle.sg_shell.proofs.reading.read_by.Given as goal

abbrev pub invariant-loop-input : goal.invariant-loop-input
invariant-loop-input g l =
    (g.S.Source.left l.initial.source ≡ in_front l.input.items (g.S.Source.left l.source))
    × (g.S.Source.faults l.source ≡ g.S.Source.faults l.initial.source)
    × (vec_len l.input ≤ 2 ^ 30)

abbrev pub decreases-loop-input : goal.decreases-loop-input
decreases-loop-input g l = 2 ^ 30 - vec_len l.input
