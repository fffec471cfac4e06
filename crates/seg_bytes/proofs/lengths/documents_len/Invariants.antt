-- The bytes so far with those of the docs that are left are all bytes.
use Rattle.std.proofs.Common.{◌≡◌, ◌≤◌, ◌+◌, ◌*◌, length, drop}
use Rattle.std.specs.List.{AllByRecursion, flat_map}
use Rattle.seg_bytes.specs.DocumentBytes.{document_bytes}
use Rattle.seg_bytes.specs.Laws.{IsWritable}
use Rattle.seg_bytes.proofs.lengths.documents_len.Given as goal

abbrev pub invariant-loop-numbered : goal.invariant-loop-numbered
invariant-loop-numbered l =
    (l.bytes + length (flat_map document_bytes (drop l.numbered-index l.docs))
    ≡ length (flat_map document_bytes l.docs))
    × (l.bytes ≤ 65536 * l.numbered-index)
    × (AllByRecursion IsWritable (drop l.numbered-index l.docs)
    → AllByRecursion IsWritable l.docs)
