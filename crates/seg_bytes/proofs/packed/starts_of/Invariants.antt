-- What is out, continued by the documents that are left, is that of all.
use Rattle.std.proofs.Common.{◌≡◌, ◌≤◌, ◌+◌, ◌*◌, ◌++◌, length, drop}
use Rattle.std.specs.List.{AllByRecursion, flat_map}
use Rattle.seg_bytes.specs.DocumentBytes.{document_bytes}
use Rattle.seg_bytes.specs.Laws.{IsWritable}
use Rattle.seg_bytes.specs.Packed.{starts_from}
use Rattle.seg_bytes.proofs.packed.starts_of.Given as goal

abbrev pub invariant-loop-numbered : goal.invariant-loop-numbered
invariant-loop-numbered l =
    (l.starts.items ++ starts_from l.end (drop l.numbered-index l.docs) ≡ starts_from 0 l.docs)
    × (l.end + length (flat_map document_bytes (drop l.numbered-index l.docs))
    ≡ length (flat_map document_bytes l.docs))
    × (l.end ≤ 65536 * l.numbered-index)
    × (AllByRecursion IsWritable (drop l.numbered-index l.docs)
    → AllByRecursion IsWritable l.docs)
