-- What is in, continued by the rest, is the whole.
use Rattle.std.proofs.Common.{◌≡◌, ◌++◌, drop, map}
use Rattle.sg_paths.specs.Paths.{entries_from as plain_entries}
use Rattle.sg_paths.specs.AllPaths.{entry_of}
use Rattle.sg_paths.proofs.collecting.add_suggestions.Given as goal

abbrev pub invariant-loop-place : goal.invariant-loop-place
invariant-loop-place l =
    l.into.items ++ map (entry_of l.doc) (plain_entries l.place (drop l.place l.suggestions))
    ≡ l.fn.into.items ++ map (entry_of l.doc) (plain_entries 0 l.suggestions)
