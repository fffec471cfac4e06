-- The value comes out of the slot that the seat took last.
use Rattle.std.proofs.Common.{◌∷◌, Some, ap, sym, ◌∙◌}
use Rattle.atomic_table.specs.Table.{rest}
use Rattle.turn_lock.proofs.ticket_lock.TicketLock.take_out.Goals as goal

pub exchange-requires : goal.exchange-requires
exchange-requires g c =
    let hand = c.requires.hand in
    (c.requires.same, (Some hand.0, hand.1 ∙ ap (λ xs. (0, Some hand.0) ∷ rest xs) (sym hand.1)))
