-- One more put.
use Rattle.std.proofs.Common.{◌∙◌}
use Rattle.sg_shell.proofs.MoveLemmas.{behind-more, put-within}
use Rattle.sg_shell.proofs.writing.write_all.Goals as goal

pub loop-written-preserved : goal.loop-written-preserved
loop-written-preserved g c =
    let so_far = c.loop-written.invariant in
    let put = c.in_ok-written.ensures in
    let bytes = c.args.bytes.now in (
      put-within bytes c.loop-written.written c.in_ok-written.field-0 so_far.0 put.within,
      behind-more _ _ _ bytes c.loop-written.written c.in_ok-written.field-0 so_far.1 put.ok,
      put.cause ∙ so_far.2,
    )
