-- The documents that are out, continued by what is left of both lists, are both lists merged.
use Rattle.std.proofs.Common.{◌≡◌, ◌≤◌, ◌++◌, drop, length}
use Rattle.merge_work.specs.Working.{merged}
use Rattle.merge_work.proofs.merging.merged.Given as goal

abbrev pub invariant-loop-doc : goal.invariant-loop-doc
invariant-loop-doc l =
    (l.at ≤ length l.later)
    × (l.docs.items ++ merged (drop l.doc-index l.first) (drop l.at l.later)
    ≡ merged l.first l.later)
