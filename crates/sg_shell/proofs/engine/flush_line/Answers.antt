-- The line of a flush.
use Rattle.sg_shell.proofs.EngineLemmas.{flush_answers}
use Rattle.sg_shell.proofs.engine.flush_line.Goals as goal

pub returns-clause-reply : goal.returns-clause-reply
returns-clause-reply g c = λ w seen.
    flush_answers c.args.line c.in_ok-count.count w c.args.index.now c.refresh.new.index seen
    c.in_ok-count.ensures.count c.in_ok-count.ensures.ok
