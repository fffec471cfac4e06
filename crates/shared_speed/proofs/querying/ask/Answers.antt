-- The view that was begun is open.
use Rattle.shared_speed.proofs.ViewLemmas.{ticket_is_open, view_is_open}
use Rattle.shared_speed.proofs.querying.ask.Goals as goal

pub end_view-requires-clause-begun : goal.end_view-requires-clause-begun
end_view-requires-clause-begun g c =
    view_is_open c.args.handle.now c.begin_view.new.handle c.in-Ok.ticket c.in-Ok-build.view
    c.begin_view.ensures.handle c.in-Ok.ensures.views c.in-Ok-build.ensures.ok

pub end_ticket-requires-clause-begun : goal.end_ticket-requires-clause-begun
end_ticket-requires-clause-begun g c =
    rw (c.in-Err.ensures.returned)
    (ticket_is_open c.args.handle.now c.begin_view.new.handle c.in-Ok.ticket
    c.begin_view.ensures.handle c.in-Ok.ensures.views)
