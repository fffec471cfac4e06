-- The line of a merge.
use Rattle.sg_shell.proofs.MergeLemmas.{merge_answers}
use Rattle.sg_shell.proofs.engine.merge_line.Goals as goal

pub returns-clause-reply : goal.returns-clause-reply
returns-clause-reply g c = λ w seen.
    merge_answers c.args.line c.in_ok-count.count w c.args.index.now c.merge.new.index seen
    c.in_ok-count.ensures.count c.in_ok-count.ensures.ok
