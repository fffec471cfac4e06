-- An error of the line itself.
use Rattle.std.proofs.Common.{◌∙◌, sym}
use Rattle.sg_shell.proofs.EngineLemmas.{refused_answers}
use Rattle.sg_shell.proofs.engine.answer.Goals as goal

pub returns-in-Some-clause-reply : goal.returns-in-Some-clause-reply
returns-in-Some-clause-reply g c =
    refused_answers c.args.line _ c.in-Err.refused c.in-Some.error _
    (sym c.kind.ensures ∙ c.in-Some.is) c.in-Err.ensures.refused
