-- Passing the turn on keeps the rule.
use Rattle.std.proofs.Common.{arith}
use Rattle.turn_lock.proofs.LeaveLemmas.{passes_with}
use Rattle.turn_lock.proofs.ticket_lock.TicketLock.pass_on.Goals as goal

pub fetch_add-requires : goal.fetch_add-requires
fetch_add-requires g c =
    let seat = c.args.seat.now in
    let hand = c.requires.hand in (
      c.requires.same,
      omega (arith, c.args.self.now.shape.0),
      passes_with _ _ _ _ seat.id seat.me hand.0 hand.1 c.requires.turn
          (omega (arith, c.args.self.now.shape.1)) hand.2 hand.3,
    )
