-- Taking a note in keeps the rule.
use Rattle.std.proofs.Common.{arith}
use Rattle.turn_lock.proofs.MeetingLemmas.{joins}
use Rattle.turn_lock.proofs.ticket_lock.TicketLock.join.Goals as goal

pub join_seat-requires : goal.join_seat-requires
join_seat-requires g c =
    let seat = c.args.seat.now in
    let note = c.requires.note in (
      c.requires.same.0,
      c.requires.same.1,
      c.requires.empty,
      omega (arith, c.args.self.now.shape.0),
      joins _ _ _ seat.id c.args.note.id seat.me.0 c.args.note.me.0 note.0 note.1 note.2 note.3,
    )
