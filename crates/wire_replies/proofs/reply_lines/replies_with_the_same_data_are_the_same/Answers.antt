-- Each reply is told by its data.
use Rattle.wire_replies.proofs.ToldLemmas.{told_apart}
use Rattle.wire_replies.proofs.reply_lines.replies_with_the_same_data_are_the_same.Goals as goal

pub returns : goal.returns
returns c = told_apart
