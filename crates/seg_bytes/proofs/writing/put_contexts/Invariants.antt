-- What is written, continued by the contexts that are left, is the whole.
use Rattle.std.proofs.Common.{◌≡◌, ◌≤◌, ◌++◌, drop}
use Rattle.std.specs.Vec.{vec_capacity}
use Rattle.std.specs.List.{flat_map}
use Rattle.seg_bytes.specs.DocumentBytes.{short_bytes}
use Rattle.seg_bytes.proofs.writing.put_contexts.Given as goal

abbrev pub invariant-loop-context : goal.invariant-loop-context
invariant-loop-context l =
    (l.out.items ++ flat_map short_bytes (drop l.context-index l.contexts)
    ≡ l.fn.out.items ++ flat_map short_bytes l.contexts)
    × (vec_capacity l.fn.out ≤ vec_capacity l.out)
