-- What each kind of line leaves.
use Rattle.sg_shell.proofs.EngineLemmas.{passes_working}
use Rattle.sg_shell.specs.Working.{worker_of}
use Rattle.std.proofs.Common.{refl}
use Rattle.sg_shell.proofs.engine.step.Goals as goal

pub returns-in_err-accept-in-Accept-clause-working :
    goal.returns-in_err-accept-in-Accept-clause-working
returns-in_err-accept-in-Accept-clause-working g c =
    passes_working c.args.worker.now.index c.accept.new.index c.args.worker.now.opened.items
    c.in_err-accept-in-Accept.ensures.passes c.requires.working

pub returns-in_ok-accept-in-Accept-clause-reply : goal.returns-in_ok-accept-in-Accept-clause-reply
returns-in_ok-accept-in-Accept-clause-reply g c =
    rw c.in-Accept.is (c.in_ok-accept-in-Accept.ensures.reply
    (worker_of c.args.worker.now.index c.args.worker.now.opened.items) refl)

pub returns-in_ok-accept-in-Accept-clause-working :
    goal.returns-in_ok-accept-in-Accept-clause-working
returns-in_ok-accept-in-Accept-clause-working g c =
    passes_working c.args.worker.now.index c.accept.new.index c.args.worker.now.opened.items
    c.in_ok-accept-in-Accept.ensures.passes c.requires.working

pub returns-in_ok-suggest-in-Suggest-clause-reply :
    goal.returns-in_ok-suggest-in-Suggest-clause-reply
returns-in_ok-suggest-in-Suggest-clause-reply g c =
    rw c.in-Suggest.is (c.in_ok-suggest-in-Suggest.ensures.reply c.in-Suggest.lane)

pub returns-in_err-flush_line-in-Flush-clause-working :
    goal.returns-in_err-flush_line-in-Flush-clause-working
returns-in_err-flush_line-in-Flush-clause-working g c =
    passes_working c.args.worker.now.index c.flush_line.new.index c.args.worker.now.opened.items
    c.in_err-flush_line-in-Flush.ensures.passes c.requires.working

pub returns-in_ok-flush_line-in-Flush-clause-reply :
    goal.returns-in_ok-flush_line-in-Flush-clause-reply
returns-in_ok-flush_line-in-Flush-clause-reply g c =
    rw c.in-Flush.is (c.in_ok-flush_line-in-Flush.ensures.reply
    (worker_of c.args.worker.now.index c.args.worker.now.opened.items) refl)

pub returns-in_ok-flush_line-in-Flush-clause-working :
    goal.returns-in_ok-flush_line-in-Flush-clause-working
returns-in_ok-flush_line-in-Flush-clause-working g c =
    passes_working c.args.worker.now.index c.flush_line.new.index c.args.worker.now.opened.items
    c.in_ok-flush_line-in-Flush.ensures.passes c.requires.working

pub returns-in_err-merge_line-in-Merge-clause-working :
    goal.returns-in_err-merge_line-in-Merge-clause-working
returns-in_err-merge_line-in-Merge-clause-working g c =
    passes_working c.args.worker.now.index c.merge_line.new.index c.args.worker.now.opened.items
    c.in_err-merge_line-in-Merge.ensures.passes c.requires.working

pub returns-in_ok-merge_line-in-Merge-clause-reply :
    goal.returns-in_ok-merge_line-in-Merge-clause-reply
returns-in_ok-merge_line-in-Merge-clause-reply g c =
    rw c.in-Merge.is (c.in_ok-merge_line-in-Merge.ensures.reply
    (worker_of c.args.worker.now.index c.args.worker.now.opened.items) refl)

pub returns-in_ok-merge_line-in-Merge-clause-working :
    goal.returns-in_ok-merge_line-in-Merge-clause-working
returns-in_ok-merge_line-in-Merge-clause-working g c =
    passes_working c.args.worker.now.index c.merge_line.new.index c.args.worker.now.opened.items
    c.in_ok-merge_line-in-Merge.ensures.passes c.requires.working
