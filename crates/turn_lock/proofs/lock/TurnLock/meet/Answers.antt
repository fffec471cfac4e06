-- What a meeting leaves, by the note and the look at the count.
use Rattle.std.proofs.Common.{ap}
use Rattle.turn_lock.proofs.HandleLemmas.{met}
use Rattle.turn_lock.proofs.lock.TurnLock.meet.Goals as goal

pub returns-clause-met : goal.returns-clause-met
returns-clause-met g c =
    let from = c.from.inside.seat in
    let to = c.to.inside.seat in
    met _ _ _ _ _ from.me.0 to.me.0 c.join_seats.new.to.me.0 c.args.from.now c.args.to.now
    c.to.invariant.0 (ap (λ me. me.0) c.join_seats.ensures.to.2) c.join_seats.ensures.kept
    c.from.view_is c.to.view_is
