-- What is left begins with the contexts that are left.
use Rattle.std.proofs.Common.{◌≡◌, ◌++◌, ℕ, List, length, drop}
use Rattle.std.specs.List.{flat_map}
use Rattle.seg_bytes.specs.DocumentBytes.{short_bytes}
use Rattle.seg_bytes.proofs.stepping.behind_contexts.Given as goal

abbrev pub invariant-loop : goal.invariant-loop
invariant-loop l =
    (cs : List (List ℕ)) (after : List ℕ) → length cs ≡ l.count
    → l.bytes ≡ flat_map short_bytes cs ++ after
    → l.rest ≡ flat_map short_bytes (drop l.counter cs) ++ after
