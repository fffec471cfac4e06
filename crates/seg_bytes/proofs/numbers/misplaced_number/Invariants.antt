-- The documents that are left decide, and their bytes fit.
use Rattle.std.proofs.Common.{◌≡◌, ◌+◌, length, drop}
use Rattle.seg_bytes.specs.DocumentBytes.{documents_bytes}
use Rattle.seg_bytes.specs.Numbers.{wrong_number_after}
use Rattle.seg_bytes.proofs.numbers.misplaced_number.Given as goal

abbrev pub invariant-loop-numbered : goal.invariant-loop-numbered
invariant-loop-numbered l =
    (wrong_number_after l.last l.start (drop l.numbered-index l.docs)
    ≡ wrong_number_after 0 l.at l.docs)
    × (l.start + length (documents_bytes (drop l.numbered-index l.docs))
    ≡ l.at + length (documents_bytes l.docs))
