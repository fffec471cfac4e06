-- All views stay, also where there is no memory.
use Rattle.sg_shell.proofs.PassLemmas.{offer_passes}
use Rattle.sg_shell.proofs.viewing.refresh.Goals as goal

pub returns-clause-passes : goal.returns-clause-passes
returns-clause-passes g c =
    offer_passes c.offer.result c.args.index.now c.offer.new.self c.offer.ensures.legal
    c.offer.ensures.ok c.offer.ensures.stopped
