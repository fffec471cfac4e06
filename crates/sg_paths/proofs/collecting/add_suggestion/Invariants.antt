-- What is in, continued by what stands in none of the contexts before, is the whole.
use Rattle.std.proofs.Common.{◌≡◌, ◌++◌, take, drop, map}
use Rattle.sg_paths.specs.Paths.{distinct_texts}
use Rattle.sg_paths.specs.Collected.{in_context}
use Rattle.sg_paths.proofs.CollectLemmas.{new_texts}
use Rattle.sg_paths.proofs.collecting.add_suggestion.Given as goal

abbrev pub invariant-loop-i : goal.invariant-loop-i
invariant-loop-i l =
    l.into.items
    ++ map (in_context l.doc l.suggestion l.place)
    (new_texts (take l.i l.contexts) (distinct_texts (drop l.i l.contexts)))
    ≡ l.fn.into.items ++ map (in_context l.doc l.suggestion l.place) (distinct_texts l.contexts)
