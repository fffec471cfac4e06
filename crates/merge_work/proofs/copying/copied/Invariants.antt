-- So far the first documents are copied.
use Rattle.std.proofs.Common.{◌≡◌, take}
use Rattle.merge_work.proofs.copying.copied.Given as goal

abbrev pub invariant-loop-doc : goal.invariant-loop-doc
invariant-loop-doc l = l.copies.items ≡ take l.doc-index l.docs
