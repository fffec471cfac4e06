-- The documents that are out, continued by those to come, are all.
use Rattle.std.proofs.Common.{◌≡◌, ◌++◌, drop}
use Rattle.merge_work.proofs.merging.push_all.Given as goal

abbrev pub invariant-loop-doc : goal.invariant-loop-doc
invariant-loop-doc l =
    l.merged.items ++ drop l.doc-index l.docs ≡ l.initial.merged.items ++ l.docs
