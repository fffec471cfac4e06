-- The value goes into the slot that the seat took last.
use Rattle.std.proofs.Common.{◌∷◌, None, ap, sym, ◌∙◌}
use Rattle.atomic_table.specs.Table.{rest}
use Rattle.turn_lock.proofs.ticket_lock.TicketLock.put_in.Goals as goal

pub exchange-before-requires : goal.exchange-before-requires
exchange-before-requires g c =
    let hand = c.requires.hand in
    (c.requires.same, (None, hand ∙ ap (λ xs. (0, None) ∷ rest xs) (sym hand)))
