-- What is left begins with the suggestions that are left.
use Rattle.std.proofs.Common.{◌≤◌, ℕ, List, length, drop}
use Rattle.sg_paths.specs.Documents.{PlainSuggestion}
use Rattle.seg_bytes.specs.Packed.{BeginWith}
use Rattle.seg_bytes.proofs.stepping.behind_suggestions.Given as goal

abbrev pub invariant-loop : goal.invariant-loop
invariant-loop l =
    (ss : List PlainSuggestion) (after : List ℕ) → l.count ≤ length ss
    → BeginWith ss after l.bytes → BeginWith (drop l.counter ss) after l.rest
