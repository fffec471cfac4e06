-- What was read is answered.
use Rattle.sg_shell.specs.Ends.{source_of, sink_of}
use Rattle.sg_shell.proofs.EndLemmas.{run_ends-read}
use Rattle.sg_shell.proofs.running.run_input.Goals as goal

pub returns-in-Ok-clause-ends : goal.returns-in-Ok-clause-ends
returns-in-Ok-clause-ends g c =
    run_ends-read (source_of g.S.Source.left g.S.Source.faults g.S.Source.ended)
    (sink_of g.K.Sink.given g.K.Sink.faults) _ _ _ _ _ c.in-Ok.input.items c.in-Ok.ensures
    (rw (← c.as_slice.ensures.value) c.answer_input.ensures)
