-- The handles made so far are the first ones of a new lock, and the maker knows how many they are.
use Rattle.std.proofs.Common.{◌≡◌, Some, length, map, vec_capacity}
use Rattle.std.specs.List.{range_with_len}
use Rattle.turn_lock.specs.Handles.{new_handle}
use Rattle.turn_lock.proofs.lock.TurnLock.make_passes.Given as goal

abbrev pub invariant-loop-number : goal.invariant-loop-number
invariant-loop-number g l =
    (l.maker.table_id ≡ l.initial.self)
    × (l.maker.me.0.made ≡ Some l.number)
    × (l.maker.me.0.seats ≡ l.seats)
    × (l.passes.items ≡ map (new_handle l.initial.self l.seats) (range_with_len 0 l.number))
    × (length l.passes.items ≡ l.number)
    × (vec_capacity l.passes ≡ vec_capacity l.initial.passes)
