-- An operation is accepted, or refused as full.
use Rattle.sg_shell.proofs.AcceptLemmas.{accepts_numbered, accepts_full}
use Rattle.sg_shell.proofs.PassLemmas.{accept_passes, same_passes}
use Rattle.sg_shell.proofs.engine.accept.Goals as goal

pub returns-in-Ok-clause-reply : goal.returns-in-Ok-clause-reply
returns-in-Ok-clause-reply g c =
    accepts_numbered c.args.line _ _ _ _ c.in-Ok.ensures.number c.in-Ok.ensures.room
    c.in-Ok.ensures.ok

pub returns-in-Ok-clause-passes : goal.returns-in-Ok-clause-passes
returns-in-Ok-clause-passes g c =
    accept_passes _ _ _ c.in-Ok.ensures.legal c.in-Ok.ensures.ok

pub returns-in-Full-clause-reply : goal.returns-in-Full-clause-reply
returns-in-Full-clause-reply g c =
    accepts_full c.args.line _ _ _ _ c.in-Full.count c.in-Full.is c.in-Err.ensures.refused
    c.in-Err.ensures.err

pub returns-in-Full-clause-passes : goal.returns-in-Full-clause-passes
returns-in-Full-clause-passes g c = same_passes _ _ c.in-Err.ensures.legal c.in-Err.ensures.err

pub returns-clause-passes : goal.returns-clause-passes
returns-clause-passes g c = same_passes _ _ c.in-Err.ensures.legal c.in-Err.ensures.err
