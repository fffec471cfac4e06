-- The documents that are out, continued by those to come, are all documents.
use Rattle.std.proofs.Common.{◌≡◌, ◌≤◌, ◌+◌, ◌++◌, drop, map, length}
use Rattle.sg_paths.specs.Operations.{plain_op, documents_from}
use Rattle.segment.proofs.documents.documents_of.Given as goal

abbrev pub invariant-loop-i : goal.invariant-loop-i
invariant-loop-i l =
    (length l.documents.items ≤ l.i)
    × (l.documents.items ++ documents_from (l.from + l.i) (map plain_op (drop l.i l.ops))
    ≡ documents_from l.from (map plain_op l.ops))
