-- What is in, continued by the rest, is the whole.
use Rattle.std.proofs.Common.{◌≡◌, ◌++◌, drop}
use Rattle.std.specs.Prelude.{filter, not}
use Rattle.std.specs.List.{list_any}
use Rattle.sg_paths.specs.Collected.{is_kept_over, kept}
use Rattle.sg_paths.proofs.collecting.add_kept.Given as goal

abbrev pub invariant-loop-entry : goal.invariant-loop-entry
invariant-loop-entry l =
    l.into.items
    ++ filter (λ q. not (list_any (λ p. is_kept_over p q) l.entries))
    (drop l.entry-index l.entries)
    ≡ l.fn.into.items ++ kept l.entries
