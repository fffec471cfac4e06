-- A run without a fault ends by the length of its input.
use Rattle.std.proofs.Common.{◌≢◌}
use Rattle.sg_shell.specs.Ends.{source_of, sink_of}
use Rattle.sg_shell.specs.declared.status.Status.TheVariants.{Usage}
use Rattle.sg_shell.proofs.EndLemmas.{ends_by_length}
use Rattle.sg_shell.proofs.running.run.Goals as goal

pub returns-clause-faultless : goal.returns-clause-faultless
returns-clause-faultless g c read clean =
    let runs : c.run_words.result ≢ Usage =
    λ usage. let unread = c.run_words.ensures.usage.0 usage in cc in
    ends_by_length (source_of g.S.Source.left g.S.Source.faults g.S.Source.ended)
    (sink_of g.K.Sink.given g.K.Sink.faults) _ _ _ _ _ runs c.run_words.ensures.ends clean
