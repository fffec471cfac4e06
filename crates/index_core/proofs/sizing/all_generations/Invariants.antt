-- So far those of the first lists are out.
use Rattle.std.proofs.Common.{◌≡◌, take}
use Rattle.std.specs.List.{flat_map}
use Rattle.index_core.proofs.sizing.all_generations.Given as goal

abbrev pub invariant-loop-list : goal.invariant-loop-list
invariant-loop-list l =
    l.all.items ≡ flat_map (λ x. x.generations) (take l.list-index l.lists)
