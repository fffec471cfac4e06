-- A count keeps the rule.
use Rattle.std.proofs.Common.{arith}
use Rattle.turn_lock.proofs.LeaveLemmas.{counts_with}
use Rattle.turn_lock.proofs.ticket_lock.TicketLock.count_in.Goals as goal

pub fetch_add-requires : goal.fetch_add-requires
fetch_add-requires g c =
    let seat = c.args.seat.now in
    let hand = c.requires.hand in (
      c.requires.same,
      omega (arith, c.args.self.now.shape.0),
      counts_with _ _ _ _ seat.id c.args.new_events seat.me hand.0 hand.1 c.requires.turn hand.2
          hand.3 hand.4,
    )
