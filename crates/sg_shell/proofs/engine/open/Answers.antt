-- A name that a view has is refused.
use Rattle.std.proofs.Common.{◌∙◌, sym}
use Rattle.sg_shell.proofs.NamedLemmas.{open_known}
use Rattle.sg_shell.proofs.engine.open.Goals as goal

pub returns-in-Some-clause-reply : goal.returns-in-Some-clause-reply
returns-in-Some-clause-reply g c =
    open_known c.args.line c.args.name c.args.index.now c.args.opened.now.items _
    (sym c.position_of.ensures ∙ c.in-Some.is)
