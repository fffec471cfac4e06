-- What is written, continued by the docs that are left, is the whole.
use Rattle.std.proofs.Common.{◌≡◌, ◌≤◌, ◌++◌, drop}
use Rattle.std.specs.Vec.{vec_capacity}
use Rattle.std.specs.List.{flat_map}
use Rattle.seg_bytes.specs.DocumentBytes.{document_bytes}
use Rattle.seg_bytes.proofs.writing.put_each.Given as goal

abbrev pub invariant-loop-numbered : goal.invariant-loop-numbered
invariant-loop-numbered l =
    (l.out.items ++ flat_map document_bytes (drop l.numbered-index l.docs)
    ≡ l.fn.out.items ++ flat_map document_bytes l.docs)
    × (vec_capacity l.fn.out ≤ vec_capacity l.out)
