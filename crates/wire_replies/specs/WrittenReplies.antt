-- Replies as lines of output, and what their readers get. Source: this project's own, over JSON
-- (RFC 8259) in UTF-8 as `serde_json` reads it.
use Rattle.std.specs.Prelude.{◌≡◌, ◌==◌, ℕ, List, [], ◌∷◌, ◌++◌, Option, IfSome, ⊤}
use Rattle.std.specs.List.{before_first}
use Rattle.hex.specs.Hex.{IsBytes}
use Rattle.serde_json.specs.Data.{Data}
use Rattle.serde_json.specs.Read.{read}
use Rattle.wire_replies.specs.Replies.{Reply, numbered, rows, opened, closed, built, merged}
use Rattle.wire_replies.specs.Replies.{accepted}
use Rattle.wire_replies.specs.Replies.{failed, reply_data}

-- what stands before the first line feed
abbrev pub before_line_feed : List ℕ → List ℕ
before_line_feed bytes = before_first (λ byte. byte == 10) bytes

-- one text without a line feed, and then a line feed
abbrev pub IsLine : List ℕ → Type 0
IsLine bytes = bytes ≡ before_line_feed bytes ++ 10 ∷ []

-- the value that a line has, if it has one
abbrev pub read_line : List ℕ → Option Data
read_line line = read (before_line_feed line)

-- the key of its cut, if it has one, is bytes
abbrev pub HasByteKey : Reply → Type 0
HasByteKey (numbered line seq) = ⊤
HasByteKey (rows line upto rs cut) = IfSome cut (λ c. IsBytes c.key)
HasByteKey (opened line view upto) = ⊤
HasByteKey (closed line view) = ⊤
HasByteKey (built line count) = ⊤
HasByteKey (merged line count) = ⊤
HasByteKey (accepted line count) = ⊤
HasByteKey (failed line kind) = ⊤

-- nothing of a reply is lost: replies with the same data are the same
abbrev pub DataTellTheReply : Type 0
DataTellTheReply = (one other : Reply) → HasByteKey one → HasByteKey other
    → reply_data one ≡ reply_data other → one ≡ other
