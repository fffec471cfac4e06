-- What is used so far stands in front.
use Rattle.std.proofs.Common.{◌≡◌}
use Rattle.std.specs.Vec.{vec_capacity}
use Rattle.std.proofs.lemmas.List.Filters.{FiltersInPlace}
use Rattle.index_holds.specs.Holders.{is_used}
use Rattle.index_holds.proofs.filtering.keep_used.Given as goal

abbrev pub invariant-loop-at : goal.invariant-loop-at
invariant-loop-at l =
    FiltersInPlace is_used l.initial.entries.items l.entries.items l.kept l.at
    × (vec_capacity l.entries ≡ vec_capacity l.initial.entries)
