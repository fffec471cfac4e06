-- A query that names no view.
use Rattle.std.proofs.Common.{refl}
use Rattle.sg_shell.specs.Working.{worker_of}
use Rattle.sg_shell.proofs.EngineLemmas.{passes_working}
use Rattle.sg_shell.proofs.engine.suggest.Goals as goal

pub returns-in_err-reply-in-None-clause-working : goal.returns-in_err-reply-in-None-clause-working
returns-in_err-reply-in-None-clause-working g c =
    passes_working c.args.worker.now.index c.query.new.index c.args.worker.now.opened.items
    c.in_err-reply-in-None.ensures.passes c.requires

pub returns-in_ok-reply-in-None-clause-reply : goal.returns-in_ok-reply-in-None-clause-reply
returns-in_ok-reply-in-None-clause-reply g c = λ lane.
    rw c.in-None.is (c.in_ok-reply-in-None.ensures.reply
    (worker_of c.args.worker.now.index c.args.worker.now.opened.items) refl)

pub returns-in_ok-reply-in-None-clause-working : goal.returns-in_ok-reply-in-None-clause-working
returns-in_ok-reply-in-None-clause-working g c =
    passes_working c.args.worker.now.index c.query.new.index c.args.worker.now.opened.items
    c.in_ok-reply-in-None.ensures.passes c.requires
