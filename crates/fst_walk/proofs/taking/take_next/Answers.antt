-- No query context is left.
use Rattle.fst_code.specs.Bytes.{nodes_of}
use Rattle.fst_walk.proofs.OptionLemmas.{none_of}
use Rattle.fst_walk.proofs.WithinLemmas.{then_end, at_end}
use Rattle.fst_walk.proofs.taking.take_next.Goals as goal

pub returns : goal.returns
returns g c =
    let i = c.loop-asked.invariant in
    then_end (nodes_of c.args.t.now) c.args.query.now c.args.walk.now c.loop-asked.walk
    c.loop-asked.walk c.args.steps.now c.loop-asked.steps c.loop-asked.steps
    i.left i.ticks (at_end (nodes_of c.args.t.now) c.args.query.now c.loop-asked.walk
    c.loop-asked.steps i.ready i.idle
    (none_of c.next_asked.result _ _ c.in_default.not-Some c.next_asked.ensures))
