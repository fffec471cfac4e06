-- One more line, and in the end all of them.
use Rattle.std.proofs.Common.{sym, arith}
use Rattle.sg_shell.specs.Lines.{lines_of}
use Rattle.sg_shell.proofs.ReadLemmas.{line-read, lines-read}
use Rattle.sg_shell.proofs.ReplyLemmas.{ran-more, ran-end}
use Rattle.sg_shell.proofs.replying.replies_by.Goals as goal

pub loop-split-preserved : goal.loop-split-preserved
loop-split-preserved g c =
    let so_far = c.loop-split.invariant in
    let answered = c.in_ok-answered.ensures in (
      ran-more c.args.input.now c.loop-split.number c.loop-split.rest.now
          c.in-Some.split.line.now c.in-Some.split.rest.now _ _ _ _ _
          so_far.1.holds (sym so_far.1.legal.numbered) (line-read c.in-Some.split.line.now)
          c.in-Some.ensures.first answered.reply c.in_ok-push_reply.ensures so_far.0,
      answered.working,
      (let shorter = c.in-Some.ensures.shorter in let n = so_far.2 in omega (arith, shorter, n)),
    )

pub returns-clause-session : goal.returns-clause-session
returns-clause-session g c =
    ran-end c.args.input.now c.loop-split.rest.now _ c.loop-split.number _
    (lines-read 1 (lines_of c.args.input.now)) c.in_default.ensures.first c.loop-split.invariant.0
