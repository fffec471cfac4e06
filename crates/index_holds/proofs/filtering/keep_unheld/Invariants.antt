-- What isn't held so far stands in front.
use Rattle.std.proofs.Common.{◌≡◌, not}
use Rattle.std.specs.Vec.{vec_capacity}
use Rattle.std.proofs.lemmas.List.Filters.{FiltersInPlace}
use Rattle.index_holds.specs.Holders.{is_held}
use Rattle.index_holds.proofs.filtering.keep_unheld.Given as goal

abbrev pub invariant-loop-at : goal.invariant-loop-at
invariant-loop-at l =
    FiltersInPlace (λ g. not (is_held l.entries g)) l.initial.gens.items l.gens.items l.kept l.at
    × (vec_capacity l.gens ≡ vec_capacity l.initial.gens)
