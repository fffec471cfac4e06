-- What a critical section leaves, as the count needs it.
use Rattle.turn_lock.proofs.HandleLemmas.{left}
use Rattle.turn_lock.proofs.lock.TurnLock.give.Goals as goal

pub count_in-requires-clause-hand : goal.count_in-requires-clause-hand
count_in-requires-clause-hand g c =
    let seat = c.pass.inside.seat in
    left _ _ _ _ _ c.count.result seat.me.0 c.put_in.new.seat.me c.args.pass.now _ c.args.hold
    c.pass.invariant.0 c.put_in.ensures.same.2 c.pass.view_is c.hold.view_is
    c.requires.entered.found c.requires.leaves c.count.ensures c.count.type_inv
