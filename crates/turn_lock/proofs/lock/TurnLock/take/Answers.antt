-- What a critical section finds, by the draw and the look.
use Rattle.turn_lock.proofs.HandleLemmas.{found}
use Rattle.turn_lock.proofs.lock.TurnLock.take.Goals as goal

pub returns-clause-found : goal.returns-clause-found
returns-clause-found g c =
    let seat = c.pass.inside.seat in
    let taken = c.wait_turn.ensures.taken in
    found _ _ _ _ _ c.draw-ticket.result seat.me.0 c.draw-ticket.new.seat.me.0 taken.0
    c.take_out-value.result c.wait_turn.new.seat.me.1 c.args.pass.now c.pass.invariant.0
    c.draw-ticket.ensures.drawn taken.1 c.take_out-value.ensures.value taken.3 c.pass.view_is
