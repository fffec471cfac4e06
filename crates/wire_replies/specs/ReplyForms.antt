-- The code's replies as plain data. Source: this project's own.
use Rattle.wire_replies.specs.Replies as plain
use Rattle.wire_replies.specs.declared.replies.Reply.{Reply}
use Rattle.wire_replies.specs.declared.replies.Reply.TheVariants.{Seq, Rows, Opened, Closed, Built}
use Rattle.wire_replies.specs.declared.replies.Reply.TheVariants.{Merged, Accepted, Error}

-- a reply as plain data
abbrev pub plain_reply : Reply → plain.Reply
plain_reply (Seq line seq) = plain.numbered line seq
plain_reply (Rows line upto rows cut) = plain.rows line upto rows.items cut
plain_reply (Opened line view upto) = plain.opened line view upto
plain_reply (Closed line view) = plain.closed line view
plain_reply (Built line count) = plain.built line count
plain_reply (Merged line count) = plain.merged line count
plain_reply (Accepted line count) = plain.accepted line count
plain_reply (Error line error) = plain.failed line error
