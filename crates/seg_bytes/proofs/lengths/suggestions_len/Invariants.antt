-- The bytes so far with those of the suggestions that are left are all bytes.
use Rattle.std.proofs.Common.{◌≡◌, ◌≤◌, ◌+◌, ◌*◌, length, drop}
use Rattle.std.specs.List.{AllByRecursion, flat_map}
use Rattle.seg_bytes.specs.DocumentBytes.{suggestion_bytes}
use Rattle.seg_bytes.specs.Laws.{IsWritableSuggestion}
use Rattle.seg_bytes.proofs.lengths.suggestions_len.Given as goal

abbrev pub invariant-loop-suggestion : goal.invariant-loop-suggestion
invariant-loop-suggestion l =
    (l.bytes + length (flat_map suggestion_bytes (drop l.suggestion-index l.suggestions))
    ≡ length (flat_map suggestion_bytes l.suggestions))
    × (l.bytes ≤ 2311 * l.suggestion-index)
    × (AllByRecursion IsWritableSuggestion (drop l.suggestion-index l.suggestions)
    → AllByRecursion IsWritableSuggestion l.suggestions)
