-- A sort leaves the same numbers.
use Rattle.std.proofs.Common.{◌∙◌, ℕ, sym, ap, nat_eq}
use Rattle.std.proofs.lemmas.List.Sorted.{IsNonDecreasingBy-from_sort, list_any-IsPermutation}
use Rattle.index_core.specs.Histories.{is_among}
use Rattle.index_core.proofs.sizing.merged_generations.Goals as goal

pub returns-clause-rising : goal.returns-clause-rising
returns-clause-rising c =
    IsNonDecreasingBy-from_sort (λ (n : ℕ). n) c.sort_unstable.new.self.items
    c.sort_unstable.ensures.sorted

pub returns-clause-among : goal.returns-clause-among
returns-clause-among c g =
    sym (list_any-IsPermutation (nat_eq g) c.in_ok-merged.merged.items
    c.sort_unstable.new.self.items c.sort_unstable.ensures.permutation)
    ∙ ap (is_among g) c.in_ok-merged.ensures
