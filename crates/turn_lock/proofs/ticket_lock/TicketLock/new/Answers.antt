-- A new table keeps the rule.
use Rattle.std.proofs.Common.{[], ◌∷◌, ◌++◌, Some, ap, ◌∙◌}
use Rattle.turn_lock.proofs.MakingLemmas.{opens_with}
use Rattle.turn_lock.proofs.ticket_lock.TicketLock.new.Goals as goal

pub new-requires : goal.new-requires
new-requires g c =
    opens_with _ _ _ c.args.seats c.args.value c.requires.empty.0 c.requires.empty.1 _
    (c.push_reserved.ensures.items
    ∙ ap (λ xs. xs ++ (Some c.args.value ∷ [])) c.in_ok-slots.ensures.items)
