-- From the root.
use Rattle.std.proofs.Common.{[]}
use Rattle.fst_walk.proofs.seeking.seek.Goals as goal

pub returns-in-Some-clause-spot : goal.returns-in-Some-clause-spot
returns-in-Some-clause-spot g c = c.go.ensures.spot [] c.in-Some.ensures.root
