-- What is written, continued by the suggestions that are left, is the whole.
use Rattle.std.proofs.Common.{◌≡◌, ◌≤◌, ◌++◌, drop}
use Rattle.std.specs.Vec.{vec_capacity}
use Rattle.std.specs.List.{flat_map}
use Rattle.seg_bytes.specs.DocumentBytes.{suggestion_bytes}
use Rattle.seg_bytes.proofs.writing.put_suggestions.Given as goal

abbrev pub invariant-loop-suggestion : goal.invariant-loop-suggestion
invariant-loop-suggestion l =
    (l.out.items ++ flat_map suggestion_bytes (drop l.suggestion-index l.suggestions)
    ≡ l.fn.out.items ++ flat_map suggestion_bytes l.suggestions)
    × (vec_capacity l.fn.out ≤ vec_capacity l.out)
