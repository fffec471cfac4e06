-- Replies and the lines that they are written as. Source: this project's own, over JSON (RFC 8259)
-- as `serde_json` defines its compact form.
use Rattle.std.specs.Prelude.{ℕ, List, [], ◌∷◌, ◌++◌, codes, true, false, map, Option, Some, None}
use Rattle.hex.specs.Hex.{encode_lower}
use Rattle.serde_json.specs.Data.{Data, boolean, number, unsigned, string, array, object}
use Rattle.serde_json.specs.Data.{member, no_members}
use Rattle.serde_json.specs.View.{items_of}
use Rattle.serde_json.specs.Written.{compact_text}
use Rattle.sg_base.specs.Cuts.{PlainCut}
use Rattle.wire_replies.specs.Rows.{Row}
use Rattle.wire_replies.specs.declared.error_kind.ErrorKind.{ErrorKind}
use Rattle.wire_replies.specs.declared.error_kind.ErrorKind.TheVariants.{Long, Json, Shape, Lane}
use Rattle.wire_replies.specs.declared.error_kind.ErrorKind.TheVariants.{Id, Empty, Weight}
use Rattle.wire_replies.specs.declared.error_kind.ErrorKind.TheVariants.{Reserved, Key, Contexts}
use Rattle.wire_replies.specs.declared.error_kind.ErrorKind.TheVariants.{Boost, K, View, Full}
use Rattle.wire_replies.specs.declared.error_kind.ErrorKind.TheVariants.{Views}

-- what a line is answered; the first number is the line's
pub data Reply : Type 0 where
  -- an operation's number
  numbered : ℕ → ℕ → Reply
  -- rows over the first so many operations, and where they were cut off, if they were
  rows : ℕ → ℕ → List Row → Option PlainCut → Reply
  -- a view's name, and over how many operations it is
  opened : ℕ → List ℕ → ℕ → Reply
  -- a view's name
  closed : ℕ → List ℕ → Reply
  -- how many segments were built, segments merged, operations accepted
  built : ℕ → ℕ → Reply
  merged : ℕ → ℕ → Reply
  accepted : ℕ → ℕ → Reply
  -- an error
  failed : ℕ → ErrorKind → Reply

-- the name of an error as it is printed
abbrev pub error_name : ErrorKind → List ℕ
error_name Long = codes "long"
error_name Json = codes "json"
error_name Shape = codes "shape"
error_name Lane = codes "lane"
error_name Id = codes "id"
error_name Empty = codes "empty"
error_name Weight = codes "weight"
error_name Reserved = codes "reserved"
error_name Key = codes "key"
error_name Contexts = codes "contexts"
error_name Boost = codes "boost"
error_name K = codes "k"
error_name View = codes "view"
error_name Full = codes "full"
error_name Views = codes "views"

-- a whole number
abbrev whole : ℕ → Data
whole n = number (unsigned n)

-- a row, by the names of its members
abbrev pub row_data : Row → Data
row_data r =
    object (
    member (codes "id") (string r.id) (
    member (codes "score") (whole r.score) (
    member (codes "seq") (whole r.seq) (
    member (codes "text") (string r.text) no_members))))

-- the key in lower-case hexadecimal
abbrev pub cut_data : PlainCut → Data
cut_data c =
    object (
    member (codes "key") (string (encode_lower c.key)) (
    member (codes "room") (whole c.room) (
    member (codes "score") (whole c.score) (
    member (codes "segment") (whole c.generation) no_members))))

-- a number under a name that stands behind `line`
abbrev pub counted_behind : List ℕ → ℕ → ℕ → Data
counted_behind name line n =
    object (member (codes "line") (whole line) (member name (whole n) no_members))

-- a number under a name that stands before `line`
abbrev pub counted_before : List ℕ → ℕ → ℕ → Data
counted_before name line n =
    object (member name (whole n) (member (codes "line") (whole line) no_members))

-- a text under a name that stands before `line`
abbrev pub named_before : List ℕ → ℕ → List ℕ → Data
named_before name line text =
    object (member name (string text) (member (codes "line") (whole line) no_members))

-- a view that was opened
abbrev pub opened_data : ℕ → List ℕ → ℕ → Data
opened_data line view upto =
    object (
    member (codes "line") (whole line) (
    member (codes "upto") (whole upto) (
    member (codes "view") (string view) no_members)))

-- rows in their order
abbrev pub row_list : List Row → Data
row_list rs = array (items_of (map row_data rs))

-- all rows, and rows that were cut off
abbrev pub rows_data : ℕ → ℕ → List Row → Option PlainCut → Data
rows_data line upto rs None =
    object (
    member (codes "complete") (boolean true) (
    member (codes "line") (whole line) (
    member (codes "rows") (row_list rs) (
    member (codes "upto") (whole upto) no_members))))
rows_data line upto rs (Some cut) =
    object (
    member (codes "complete") (boolean false) (
    member (codes "cut") (cut_data cut) (
    member (codes "line") (whole line) (
    member (codes "rows") (row_list rs) (
    member (codes "upto") (whole upto) no_members)))))

-- the JSON value of a reply, members in ascending order of name
abbrev pub reply_data : Reply → Data
reply_data (numbered line seq) = counted_behind (codes "seq") line seq
reply_data (rows line upto rs cut) = rows_data line upto rs cut
reply_data (opened line view upto) = opened_data line view upto
reply_data (closed line view) = named_before (codes "closed") line view
reply_data (built line count) = counted_before (codes "built") line count
reply_data (merged line count) = counted_behind (codes "merged") line count
reply_data (accepted line count) = counted_before (codes "accepted") line count
reply_data (failed line kind) = named_before (codes "error") line (error_name kind)

-- a value as a line: its compact text and a line feed
abbrev pub line_text : Data → List ℕ
line_text d = compact_text d ++ 10 ∷ []

-- the bytes of a reply
abbrev pub reply_text : Reply → List ℕ
reply_text r = line_text (reply_data r)
