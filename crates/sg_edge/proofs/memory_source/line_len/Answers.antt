-- The offset found, or the lack of one, says how long the line is.
use Rattle.std.proofs.Common.{arith}
use Rattle.sg_edge.proofs.LineLemmas.{length-through_line_feed-some}
use Rattle.sg_edge.proofs.LineLemmas.{length-through_line_feed-none}
use Rattle.sg_edge.proofs.memory_source.line_len.Goals as goal

pub returns-in-Some-clause-exact : goal.returns-in-Some-clause-exact
returns-in-Some-clause-exact c =
    let found = c.in-Some.ensures.first in
    omega (arith, length-through_line_feed-some c.args.bytes.now 0 c.in-Some.at found)

pub returns-in-None-clause-exact : goal.returns-in-None-clause-exact
returns-in-None-clause-exact c =
    length-through_line_feed-none c.args.bytes.now 0 c.in-None.ensures.first
