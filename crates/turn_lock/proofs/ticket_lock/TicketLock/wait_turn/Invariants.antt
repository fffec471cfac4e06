-- A seat that waits stays as it is.
use Rattle.std.proofs.Common.{◌≡◌}
use Rattle.turn_lock.proofs.ticket_lock.TicketLock.wait_turn.Given as goal

abbrev pub invariant-loop-round : goal.invariant-loop-round
invariant-loop-round g l =
    (l.seat.me ≡ l.initial.seat.me) × (l.seat.table_id ≡ l.initial.seat.table_id)
    × (l.seat.id ≡ l.initial.seat.id)
