-- What is found so far, continued by the rest, is the whole.
use Rattle.std.proofs.Common.{◌≡◌, None, drop}
use Rattle.std.specs.Option.{option_copied}
use Rattle.fst_walk.specs.Asked.{is_left_at, soonest}
use Rattle.fst_walk.specs.Walks.{position_of}
use Rattle.fst_walk.proofs.asking.soonest.Given as goal

abbrev pub invariant-loop-one : goal.invariant-loop-one
invariant-loop-one l =
    soonest (is_left_at (position_of l.walk)) (drop l.one-index l.asked) (option_copied l.best)
    ≡ soonest (is_left_at (position_of l.walk)) l.asked None
