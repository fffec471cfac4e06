-- A look at the count keeps the rule.
use Rattle.std.proofs.Common.{arith}
use Rattle.turn_lock.proofs.MeetingLemmas.{tells}
use Rattle.turn_lock.proofs.ticket_lock.TicketLock.tell.Goals as goal

pub load-requires : goal.load-requires
load-requires g c =
    let seat = c.args.seat.now in (
      c.requires.same,
      omega (arith, c.args.self.now.shape.0),
      tells _ _ _ _ seat.id seat.me.0 seat.me.1,
    )
