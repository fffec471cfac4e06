-- A full queue drops its last.
use Rattle.std.proofs.Common.{sym, ap, ◌∙◌}
use Rattle.path_desk.specs.Entries.{queued}
use Rattle.path_desk.specs.Desks.{queue}
use Rattle.path_desk.proofs.PutLemmas.{rises-shortened, rises-exchanged, full-exchanged, full-end}
use Rattle.path_desk.proofs.queue.Queue.put_full.Goals as goal

pub returns-then-at-len-clause-value : goal.returns-then-at-len-clause-value
returns-then-at-len-clause-value c =
    full-end c.remember.result c.args.self.now c.self.inside.waiting.items c.as_slice.result.now
    (queued c.args.entry c.args.bytes.now) c.place_of-at.result c.len.result
    c.self.inside.dropped c.remember.new.dropped
    (sym c.self.view_is) c.as_slice.ensures.value (c.len.ensures ∙ sym c.as_slice.ensures.len)
    c.if-at-len.true c.place_of-at.ensures.place c.remember.ensures

pub invariant_of-self-in_err-last : goal.invariant_of-self-in_err-last
invariant_of-self-in_err-last c =
    rises-shortened c.self.inside.waiting.items c.exchange_last.new.waiting.items
    c.in_err-last.ensures.err c.self.invariant

pub invariant_of-self-2 : goal.invariant_of-self-2
invariant_of-self-2 c =
    rises-exchanged c.self.inside.waiting.items c.as_slice.result.now
    c.exchange_last.new.waiting.items (queued c.args.entry c.args.bytes.now) c.in_ok-held.held
    c.in_ok-last.last c.place_of-at.result
    c.as_slice.ensures.value c.in_ok-held.ensures c.place_of-at.ensures.bound
    (λ e. c.if-at-len.false (e ∙ sym (c.len.ensures ∙ sym c.as_slice.ensures.len)))
    c.in_ok-last.ensures.ok c.place_of-at.ensures.place c.self.invariant

pub returns-clause-value : goal.returns-clause-value
returns-clause-value c =
    ap (λ o. queue c.exchange_last.new.waiting.items o) c.keep_first-behind.ensures
    ∙ full-exchanged c.args.self.now c.self.inside.waiting.items c.as_slice.result.now
    c.exchange_last.new.waiting.items (queued c.args.entry c.args.bytes.now)
    c.in_ok-held.held c.in_ok-last.last c.place_of-at.result c.self.inside.dropped
    (sym c.self.view_is) c.as_slice.ensures.value c.in_ok-held.ensures c.place_of-at.ensures.bound
    (λ e. c.if-at-len.false (e ∙ sym (c.len.ensures ∙ sym c.as_slice.ensures.len)))
    c.in_ok-last.ensures.ok c.place_of-at.ensures.place
