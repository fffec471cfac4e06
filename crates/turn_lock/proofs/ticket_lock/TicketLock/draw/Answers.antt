-- A draw keeps the rule.
use Rattle.std.proofs.Common.{arith}
use Rattle.turn_lock.proofs.EnterLemmas.{draws}
use Rattle.turn_lock.proofs.ticket_lock.TicketLock.draw.Goals as goal

pub fetch_add-requires : goal.fetch_add-requires
fetch_add-requires g c =
    let seat = c.args.seat.now in (
      c.requires.same,
      omega (arith, c.args.self.now.shape.0),
      draws _ _ _ _ seat.id seat.me.0 seat.me.1 c.requires.free c.requires.handle,
    )
