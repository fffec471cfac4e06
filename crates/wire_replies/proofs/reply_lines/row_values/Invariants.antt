-- So far the values are those of the rows.
use Rattle.std.proofs.Common.{◌≡◌, take, map}
use Rattle.serde_json.specs.View.{view}
use Rattle.wire_replies.specs.Replies.{row_data}
use Rattle.wire_replies.proofs.reply_lines.row_values.Given as goal

abbrev pub invariant-loop-row : goal.invariant-loop-row
invariant-loop-row l = map view l.values.items ≡ map row_data (take l.row-index l.rows)
