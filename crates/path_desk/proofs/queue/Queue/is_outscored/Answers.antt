-- Behind the last of a full queue and the dropped one nothing changes.
use Rattle.std.proofs.Common.{◌∙◌, ap, true}
use Rattle.path_desk.specs.Desks.{outscores}
use Rattle.path_desk.proofs.OutscoredLemmas.{unchanged-calls}
use Rattle.path_desk.proofs.queue.Queue.is_outscored.Goals as goal

pub returns-then-outscores-clause-same : goal.returns-then-outscores-clause-same
returns-then-outscores-clause-same c shown =
    unchanged-calls c.args.self.now c.self.inside.waiting.items c.deref.result.now
    c.self.inside.dropped _ c.args.score c.outscores.result
    c.outscores-then-outscores.result c.self.view_is c.self.invariant c.deref.ensures.value
    c.as_ref.ensures.value
    (c.outscores.ensures ∙ ap (outscores true c.args.score) c.last.ensures.value)
    c.if-outscores.true c.outscores-then-outscores.ensures shown
