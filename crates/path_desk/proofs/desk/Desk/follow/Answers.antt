-- The first queued entry's bytes become the path.
use Rattle.std.proofs.Common.{sym, ◌∙◌, ap}
use Rattle.path_desk.proofs.PutLemmas.{following-dropped}
use Rattle.path_desk.proofs.desk.Desk.follow.Goals as goal

pub returns : goal.returns
returns c = (
  c.take_first.new.path.items,
  c.take_first.new.self.waiting,
  sym (ap (λ d. d.waiting) c.self.view_is) ∙ c.in_ok-entry.ensures.0,
  following-dropped _ _ c.take_first.new.self.waiting c.take_first.new.path.items
      c.take_first.new.self.dropped c.self.view_is c.in_ok-entry.ensures.1,
)
