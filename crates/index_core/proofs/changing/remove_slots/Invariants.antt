-- What isn't taken away so far stands in front.
use Rattle.std.proofs.Common.{◌≡◌, not}
use Rattle.std.specs.Vec.{vec_capacity}
use Rattle.std.proofs.lemmas.List.Filters.{FiltersInPlace}
use Rattle.index_core.specs.Histories.{is_among}
use Rattle.index_core.proofs.changing.remove_slots.Given as goal

abbrev pub invariant-loop-at : goal.invariant-loop-at
invariant-loop-at l =
    FiltersInPlace (λ s. not (is_among s.generation l.gens)) l.initial.slots.items l.slots.items
    l.kept l.at
    × (vec_capacity l.slots ≡ vec_capacity l.initial.slots)
