-- The bytes so far with those of the contexts that are left are all bytes.
use Rattle.std.proofs.Common.{◌≡◌, ◌≤◌, ◌+◌, ◌*◌, true, length, drop}
use Rattle.std.specs.List.{AllByRecursion, flat_map}
use Rattle.seg_bytes.specs.DocumentBytes.{short_bytes}
use Rattle.seg_bytes.specs.DocumentsRead.{may_be_context}
use Rattle.seg_bytes.proofs.lengths.contexts_len.Given as goal

abbrev pub invariant-loop-context : goal.invariant-loop-context
invariant-loop-context l =
    (l.bytes + length (flat_map short_bytes (drop l.context-index l.contexts))
    ≡ length (flat_map short_bytes l.contexts))
    × (l.bytes ≤ 64 * l.context-index)
    × (AllByRecursion (λ c. may_be_context c ≡ true) (drop l.context-index l.contexts)
    → AllByRecursion (λ c. may_be_context c ≡ true) l.contexts)
