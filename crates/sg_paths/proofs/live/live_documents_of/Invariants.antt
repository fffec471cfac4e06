-- The live documents so far, and those of the operations that are left.
use Rattle.std.proofs.Common.{◌≡◌, ◌+◌, ◌++◌, length, map, drop}
use Rattle.sg_paths.specs.Operations.{plain_op}
use Rattle.sg_paths.specs.LiveDocuments.{live_documents}
use Rattle.sg_paths.proofs.LiveDocumentsLemmas.{live_from}
use Rattle.sg_paths.proofs.live.live_documents_of.Given as goal

abbrev pub invariant-loop-i : goal.invariant-loop-i
invariant-loop-i l =
    l.live.items ++ live_from (l.i + 1) (map plain_op (drop l.i l.journal))
    ≡ live_documents (map plain_op l.journal) (length l.journal)
