-- None so far.
use Rattle.std.proofs.Common.{◌≡◌, drop}
use Rattle.std.specs.Prelude.{bytes_eq}
use Rattle.std.specs.List.{list_any}
use Rattle.sg_paths.proofs.collecting.holds.Given as goal

abbrev pub invariant-loop-other : goal.invariant-loop-other
invariant-loop-other l =
    list_any (λ c. bytes_eq c l.context) (drop l.other-index l.contexts)
    ≡ list_any (λ c. bytes_eq c l.context) l.contexts
