-- Making a handle keeps the rule.
use Rattle.std.proofs.Common.{arith}
use Rattle.turn_lock.proofs.MakingLemmas.{cuts}
use Rattle.turn_lock.proofs.ticket_lock.TicketLock.cut.Goals as goal

pub split_seat-requires : goal.split_seat-requires
split_seat-requires g c =
    let seat = c.args.maker.now in
    let made = c.requires.made in (
      c.requires.same,
      omega (arith, c.args.self.now.shape.0),
      cuts _ _ _ seat.id made.0 seat.me.0 made.1 made.2 made.3,
    )
