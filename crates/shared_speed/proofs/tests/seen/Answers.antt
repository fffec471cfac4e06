-- The view that was begun is open, also once it was taken apart.
use Rattle.shared_speed.proofs.ViewLemmas.{parts_are_open, ticket_is_open}
use Rattle.shared_speed.proofs.tests.seen.Goals as goal

pub end_ticket-requires-clause-begun : goal.end_ticket-requires-clause-begun
end_ticket-requires-clause-begun g c =
    let parts = c.parts-parts.ensures in
    rw (c.of.ensures)
    (parts_are_open c.args.handle.now c.begin_view.new.handle c.in_ok-begin_view.field-0
    c.parts-parts.result c.in-Ok.view c.begin_view.ensures.handle
    c.in_ok-begin_view.ensures.views c.in-Ok.ensures.ok parts.number parts.upto
    parts.generations)

pub end_ticket-requires-in-Err-clause-begun : goal.end_ticket-requires-in-Err-clause-begun
end_ticket-requires-in-Err-clause-begun g c =
    rw (c.in-Err.ensures.returned)
    (ticket_is_open c.args.handle.now c.begin_view.new.handle c.in_ok-begin_view.field-0
    c.begin_view.ensures.handle c.in_ok-begin_view.ensures.views)
