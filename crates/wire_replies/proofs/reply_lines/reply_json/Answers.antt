-- The value's data are the reply's, have no float and aren't deep.
use Rattle.std.proofs.Common.{◌≡◌, ◌≤◌, ◌∙◌, ap, false, Some}
use Rattle.serde_json.specs.View.{view}
use Rattle.serde_json.specs.Data.{depth}
use Rattle.serde_json.specs.Read.{max_depth}
use Rattle.serde_json.specs.Written.{has_float, compact_text}
use Rattle.wire_replies.specs.ReplyForms.{plain_reply}
use Rattle.wire_replies.proofs.ReplyLemmas.{reply_data_has_float, depth-reply_data}
use Rattle.wire_replies.proofs.reply_lines.reply_json.Goals as goal

pub returns-clause-text : goal.returns-clause-text
returns-clause-text c =
    let is = c.in_ok-value.ensures in
    let no_float : has_float (view c.in_ok-value.value) ≡ false =
    ap has_float is ∙ reply_data_has_float (plain_reply c.args.reply.now) in
    c.in_ok-text.ensures.text no_float ∙ ap compact_text is

pub returns-clause-reads_back : goal.returns-clause-reads_back
returns-clause-reads_back c =
    let is = c.in_ok-value.ensures in
    let shallow : depth (view c.in_ok-value.value) ≤ max_depth =
    rw is (depth-reply_data (plain_reply c.args.reply.now)) in
    c.in_ok-text.ensures.reads_back shallow ∙ ap Some is
