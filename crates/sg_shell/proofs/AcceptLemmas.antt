-- What the line of an operation answers.
use Rattle.std.proofs.Common.{◌≡◌, ◌<◌, ◌+◌, ℕ, Bool, true, false, cond, sym, ap, ◌∙◌, subst}
use Rattle.std.proofs.Common.{arith}
use Rattle.std.specs.Prelude.{nat_le}
use Rattle.std.proofs.lemmas.Bool.Decides.{nat_tests}
use Rattle.sg_paths.specs.Operations.{PlainOp}
use Rattle.index_core.specs.declared.limits.TheConstants.{MOST_OPERATIONS}
use Rattle.index_core.specs.declared.refusal.Why.{Why}
use Rattle.index_core.specs.declared.refusal.Why.TheVariants as why
use Rattle.index_core.specs.Histories.{Record}
use Rattle.index_core.specs.Records.{accepted}
use Rattle.index_core.specs.Calls.{after_accept, RefusesOperation}
use Rattle.wire_replies.specs.Replies.{numbered, failed}
use Rattle.wire_replies.specs.declared.error_kind.ErrorKind.TheVariants.{Full}
use Rattle.sg_shell.specs.Workers.{Worker, with_seen, Step, says, accept_step}
use Rattle.sg_shell.specs.Working.{Answers}
use Rattle.index_single.specs.declared.caller.TheConstants.{CALLER}
use Rattle.sg_shell.proofs.EngineLemmas.{answers_says}

abbrev by_room : ℕ → PlainOp → Worker → Bool → Step
by_room line op w full =
    cond full (says (failed line Full) w) (says (numbered line (accepted w.seen + 1))
    (with_seen (after_accept CALLER op w.seen) w))

pub accepts_numbered : (line seq : ℕ) (op : PlainOp) (old new : Record) → seq ≡ accepted old + 1
    → accepted old < MOST_OPERATIONS → new ≡ after_accept CALLER op old
    → (w : Worker) → w.seen ≡ old
    → Answers line (accept_step CALLER line op w) (numbered line seq) (with_seen new w)
accepts_numbered line seq op old new number room is w seen =
    let count : accepted w.seen ≡ accepted old = ap (λ (r : Record). accepted r) seen in
    let test : nat_le MOST_OPERATIONS (accepted w.seen) ≡ false =
    grind (arith, nat_tests, count, room) in
    answers_says line (accept_step CALLER line op w) (numbered line seq) (with_seen new w)
    (ap (by_room line op w) test
    ∙ ap (λ (r : Record). says (numbered line (accepted r + 1))
    (with_seen (after_accept CALLER op r) w)) seen
    ∙ ap (λ (n : ℕ). says (numbered line n) (with_seen (after_accept CALLER op old) w)) (sym number)
    ∙ ap (λ (r : Record). says (numbered line seq) (with_seen r w)) (sym is))

pub accepts_full : (line : ℕ) (op : PlainOp) (old new : Record) (cause : Why) (count : ℕ)
    → cause ≡ why.Full count → RefusesOperation old cause → new ≡ old
    → (w : Worker) → w.seen ≡ old
    → Answers line (accept_step CALLER line op w) (failed line Full) (with_seen new w)
accepts_full line op old new cause count is refused same w seen =
    let full : accepted old ≡ MOST_OPERATIONS = (subst (RefusesOperation old) is refused).0 in
    let here : accepted w.seen ≡ accepted old = ap (λ (r : Record). accepted r) seen in
    let test : nat_le MOST_OPERATIONS (accepted w.seen) ≡ true =
    grind (arith, nat_tests, full, here) in
    answers_says line (accept_step CALLER line op w) (failed line Full) (with_seen new w)
    (ap (by_room line op w) test
    ∙ ap (λ (r : Record). says (failed line Full) (with_seen r w)) (seen ∙ sym same))
