-- None so far.
use Rattle.std.proofs.Common.{◌≡◌, drop}
use Rattle.std.specs.List.{list_any}
use Rattle.sg_paths.specs.Collected.{is_kept_over}
use Rattle.sg_paths.proofs.collecting.is_beaten.Given as goal

abbrev pub invariant-loop-p : goal.invariant-loop-p
invariant-loop-p l =
    list_any (λ e. is_kept_over e l.q) (drop l.p-index l.entries)
    ≡ list_any (λ e. is_kept_over e l.q) l.entries
