-- One operation more is the handle's own.
use Rattle.shared_speed.proofs.AddLemmas.{accepted_one}
use Rattle.shared_speed.proofs.adding.add.Goals as goal

pub returns-clause-ok : goal.returns-clause-ok
returns-clause-ok g c =
    accepted_one c.args.handle.now c.accept.new.handle _ _ c.accept.ensures.handle
    c.in-Ok.ensures.ok
