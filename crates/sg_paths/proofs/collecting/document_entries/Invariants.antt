-- What is in, continued by the rest, is the whole.
use Rattle.std.proofs.Common.{◌≡◌, ◌++◌, drop}
use Rattle.sg_paths.specs.AllPaths.{path_entries}
use Rattle.sg_paths.proofs.collecting.document_entries.Given as goal

abbrev pub invariant-loop-doc : goal.invariant-loop-doc
invariant-loop-doc l =
    l.entries.items ++ path_entries l.doc (drop l.doc l.docs) ≡ path_entries 0 l.docs
