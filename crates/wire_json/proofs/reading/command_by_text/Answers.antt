-- A line goes by its value, and one without a value is refused.
use Rattle.std.proofs.Common.{sym, ◌∙◌, IfErr, subst}
use Rattle.std.proofs.lemmas.Result.{IfOk-weaker}
use Rattle.wire_json.specs.Commands.{Command}
use Rattle.wire_json.specs.CommandForms.{Refuses}
use Rattle.wire_json.proofs.CommandLemmas.{value_of-read, value_of-unread, command_of_text-by}
use Rattle.wire_json.proofs.reading.command_by_text.Goals as goal

pub returns-in-Ok-clause-ok : goal.returns-in-Ok-clause-ok
returns-in-Ok-clause-ok c =
    let is = command_of_text-by c.args.analyzer.now c.args.lanes c.args.line.now _
    (value_of-read c.args.line.now _ c.in-Ok.ensures.ok.0 c.in-Ok.ensures.ok.1) in
    IfOk-weaker c.command_by_value.result _ _ (λ a h. is ∙ h) c.command_by_value.ensures.ok

pub returns-in-Ok-clause-refused : goal.returns-in-Ok-clause-refused
returns-in-Ok-clause-refused c =
    let is = command_of_text-by c.args.analyzer.now c.args.lanes c.args.line.now _
    (value_of-read c.args.line.now _ c.in-Ok.ensures.ok.0 c.in-Ok.ensures.ok.1) in
    let P : Command → Type 0 = λ p. IfErr c.command_by_value.result (Refuses p) in
    subst P (sym is) c.command_by_value.ensures.refused

pub returns-in_default : goal.returns-in_default
returns-in_default c =
    let unread = value_of-unread c.args.line.now
    (c.in-Err.ensures.err (λ m. c.in_default.not-Memory (c.classify.ensures.memory.1 m))) in
    record {
      ok = tt;
      refused = command_of_text-by c.args.analyzer.now c.args.lanes c.args.line.now _ unread;
      read = tt;
    }
