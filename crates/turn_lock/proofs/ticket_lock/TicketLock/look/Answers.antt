-- A look keeps the rule.
use Rattle.std.proofs.Common.{arith}
use Rattle.turn_lock.proofs.EnterLemmas.{looks_with}
use Rattle.turn_lock.proofs.ticket_lock.TicketLock.look.Goals as goal

pub load-serving-requires : goal.load-serving-requires
load-serving-requires g c =
    let seat = c.args.seat.now in (
      c.requires.same,
      omega (arith, c.args.self.now.shape.0),
      looks_with _ _ _ _ seat.id c.args.ticket seat.me c.requires.ticket c.requires.turn
          c.requires.hand (omega (arith, c.args.self.now.shape.1)),
    )
