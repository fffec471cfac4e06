-- Making a note keeps the rule.
use Rattle.std.proofs.Common.{arith}
use Rattle.turn_lock.proofs.MeetingLemmas.{notes}
use Rattle.turn_lock.proofs.ticket_lock.TicketLock.note.Goals as goal

pub split_seat-requires : goal.split_seat-requires
split_seat-requires g c =
    let seat = c.args.seat.now in (
      c.requires.same,
      omega (arith, c.args.self.now.shape.0),
      notes _ _ _ seat.id seat.me.0,
    )
