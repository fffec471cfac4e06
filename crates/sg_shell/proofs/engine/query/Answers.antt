-- A query over a view of its own.
use Rattle.std.proofs.Common.{Option, subst}
use Rattle.sg_view.specs.Viewing.{PlainView}
use Rattle.sg_shell.specs.Working.{Begins}
use Rattle.sg_shell.proofs.EngineLemmas.{query_is_full, query_begins, query_ends}
use Rattle.sg_shell.proofs.engine.query.Goals as goal

pub returns-in_err-reply-in-Some-clause-passes : goal.returns-in_err-reply-in-Some-clause-passes
returns-in_err-reply-in-Some-clause-passes g c =
    query_ends c.args.index.now c.refresh.new.index c.begin.new.index c.answer_and_end.new.index
    c.in-Some.view c.in_err-reply-in-Some.ensures.legal c.in_ok-refresh.ensures.passes
    (subst (λ (o : Option PlainView). Begins c.refresh.new.index c.begin.new.index o) c.in-Some.is
    c.in_ok-view.ensures.ok) c.in_err-reply-in-Some.ensures.ended

pub returns-in_ok-reply-in-Some-clause-reply : goal.returns-in_ok-reply-in-Some-clause-reply
returns-in_ok-reply-in-Some-clause-reply g c = λ w seen.
    query_begins c.args.line c.args.query.now w c.args.index.now c.refresh.new.index
    c.begin.new.index c.answer_and_end.new.index c.in-Some.view _ seen c.in_ok-refresh.ensures.ok
    (subst (λ (o : Option PlainView). Begins c.refresh.new.index c.begin.new.index o) c.in-Some.is
    c.in_ok-view.ensures.ok) c.in_ok-reply-in-Some.ensures.ended
    c.in_ok-reply-in-Some.ensures.reply c.in_ok-reply-in-Some.ensures.few

pub returns-in_ok-reply-in-Some-clause-passes : goal.returns-in_ok-reply-in-Some-clause-passes
returns-in_ok-reply-in-Some-clause-passes g c =
    query_ends c.args.index.now c.refresh.new.index c.begin.new.index c.answer_and_end.new.index
    c.in-Some.view c.in_ok-reply-in-Some.ensures.legal c.in_ok-refresh.ensures.passes
    (subst (λ (o : Option PlainView). Begins c.refresh.new.index c.begin.new.index o) c.in-Some.is
    c.in_ok-view.ensures.ok) c.in_ok-reply-in-Some.ensures.ended

pub returns-in-None-clause-reply : goal.returns-in-None-clause-reply
returns-in-None-clause-reply g c = λ w seen.
    query_is_full c.args.line c.args.query.now w c.args.index.now c.refresh.new.index
    c.begin.new.index seen c.in_ok-refresh.ensures.ok
    (subst (λ (o : Option PlainView). Begins c.refresh.new.index c.begin.new.index o) c.in-None.is
    c.in_ok-view.ensures.ok)
