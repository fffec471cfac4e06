-- What stands before the line feed is the reply's compact text, which has none.
use Rattle.std.proofs.Common.{◌≡◌, ◌++◌, ◌∷◌, [], ◌∙◌, sym, ap, subst, ℕ, List, rules}
use Rattle.std.specs.Str.{IsUtf8}
use Rattle.std.proofs.lemmas.Str.{IsUtf8-append, IsUtf8-from_ascii}
use Rattle.serde_json.specs.Read.{read}
use Rattle.serde_json.specs.Written.{compact_text}
use Rattle.wire_replies.specs.Replies.{reply_data}
use Rattle.wire_replies.specs.ReplyForms.{plain_reply}
use Rattle.wire_replies.specs.WrittenReplies.{before_line_feed}
use Rattle.wire_replies.proofs.LineFeedLemmas.{before_line_feed-compact_text}
use Rattle.wire_replies.proofs.reply_lines.reply.Goals as goal

-- the bytes are the text and a line feed
ended : (c : goal.In_ok-push) → c.push.new.self.items
    ≡ compact_text (reply_data (plain_reply c.args.reply.now)) ++ 10 ∷ []
ended c =
    c.in_ok-push.ensures.items
    ∙ ap (λ (text : List ℕ). text ++ 10 ∷ []) c.in_ok-line.ensures.text

-- and that text stands before it
before_line_feed-line : (c : goal.In_ok-push) → before_line_feed c.push.new.self.items
    ≡ compact_text (reply_data (plain_reply c.args.reply.now))
before_line_feed-line c =
    ap before_line_feed (ended c)
    ∙ before_line_feed-compact_text (reply_data (plain_reply c.args.reply.now))

pub returns-clause-one_line : goal.returns-clause-one_line
returns-clause-one_line c =
    ended c ∙ ap (λ (text : List ℕ). text ++ 10 ∷ []) (sym (before_line_feed-line c))

pub returns-clause-utf8 : goal.returns-clause-utf8
returns-clause-utf8 c =
    subst IsUtf8 (sym c.in_ok-push.ensures.items)
    (IsUtf8-append c.in_ok-line.line.items (10 ∷ []) c.in_ok-line.ensures.utf8
    (IsUtf8-from_ascii (10 ∷ []) (search rules)))

pub returns-clause-reads_back : goal.returns-clause-reads_back
returns-clause-reads_back c =
    ap read (before_line_feed-line c ∙ sym c.in_ok-line.ensures.text)
    ∙ c.in_ok-line.ensures.reads_back
