-- A view has begun and is built, or it has ended again.
use Rattle.sg_shell.proofs.BeginLemmas.{begins_some, begins_failed}
use Rattle.sg_shell.proofs.PassLemmas.{same_passes}
use Rattle.sg_shell.proofs.viewing.begin.Goals as goal

pub returns-in-Ok-build-clause-ok : goal.returns-in-Ok-build-clause-ok
returns-in-Ok-build-clause-ok g c =
    begins_some c.args.index.now c.begin_view.new.self c.build.new.index c.in-Ok.ticket
    c.in-Ok-build.view c.in-Ok.ensures.legal c.in-Ok.ensures.room c.in-Ok.ensures.ok
    c.in-Ok-build.ensures.unchanged c.in-Ok.ensures.view c.in-Ok.ensures.parts
    c.in-Ok.ensures.begun c.in-Ok-build.ensures.ok c.in-Ok-build.ensures.represents

pub returns-in-Err-clause-err : goal.returns-in-Err-clause-err
returns-in-Err-clause-err g c =
    begins_failed c.args.index.now c.begin_view.new.self c.build.new.index c.in-Ok.ticket
    c.in-Err.ensures.legal c.in-Ok.ensures.ok c.in-Ok.ensures.view c.in-Err.ensures.ended

pub returns-in-Err-Memory-clause-err : goal.returns-in-Err-Memory-clause-err
returns-in-Err-Memory-clause-err g c =
    same_passes _ _ c.in-Err-Memory.ensures.legal c.in-Err-Memory.ensures.err
