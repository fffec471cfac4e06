-- The documents that are out, continued by those to come, are all live documents.
use Rattle.std.proofs.Common.{◌≡◌, ◌++◌, drop}
use Rattle.merge_work.specs.Working.{live_of}
use Rattle.merge_work.proofs.sources.kept_of.Given as goal

abbrev pub invariant-loop-doc : goal.invariant-loop-doc
invariant-loop-doc l =
    l.kept.items ++ live_of (drop l.doc l.table) (drop l.doc l.live) ≡ live_of l.table l.live
