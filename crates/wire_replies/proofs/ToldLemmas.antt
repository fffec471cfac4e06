-- A reply is told by its data: who reads the members gets it back.
use Rattle.std.proofs.Common.{◌≡◌, ℕ, Bool, List, [], ◌∷◌, map, Some, None, refl, sym, ap, ap₂, ◌∙◌}
use Rattle.std.specs.Prelude.{codes, is_some, unwrap_or, option_map, option_and_then}
use Rattle.std.specs.Prelude.{if◌then◌else◌, find}
use Rattle.std.specs.Result.{result_unwrap_or}
use Rattle.std.specs.Str.{bytes_eq}
use Rattle.hex.specs.Hex.{decode_of, IsBytes}
use Rattle.hex.proofs.HexLemmas.{decode_of-encode_lower}
use Rattle.serde_json.specs.Data.{Data, Items, no_items, item}
use Rattle.serde_json.specs.Find.{get, as_number, as_u64, as_str, as_array}
use Rattle.serde_json.specs.View.{items_of}
use Rattle.sg_base.specs.Cuts.{PlainCut}
use Rattle.wire_replies.specs.Rows.{Row}
use Rattle.wire_replies.specs.Replies.{Reply, numbered, rows, opened, closed, built, merged}
use Rattle.wire_replies.specs.Replies.{accepted}
use Rattle.wire_replies.specs.Replies.{failed, error_name, row_data, cut_data, reply_data}
use Rattle.wire_replies.specs.WrittenReplies.{HasByteKey, DataTellTheReply}
use Rattle.wire_replies.specs.declared.error_kind.ErrorKind.{ErrorKind}
use Rattle.wire_replies.specs.declared.error_kind.ErrorKind.TheVariants.{Long, Json, Shape, Lane}
use Rattle.wire_replies.specs.declared.error_kind.ErrorKind.TheVariants.{Id, Empty, Weight}
use Rattle.wire_replies.specs.declared.error_kind.ErrorKind.TheVariants.{Reserved, Key, Contexts}
use Rattle.wire_replies.specs.declared.error_kind.ErrorKind.TheVariants.{Boost, K, View, Full}
use Rattle.wire_replies.specs.declared.error_kind.ErrorKind.TheVariants.{Views}

-- whether there is a member of that name, its number, and its text
abbrev has_member : List ℕ → Data → Bool
has_member name d = is_some (get name d)

abbrev number_at : List ℕ → Data → ℕ
number_at name d = unwrap_or (option_and_then as_u64 (option_and_then as_number (get name d))) 0

abbrev text_at : List ℕ → Data → List ℕ
text_at name d = unwrap_or (option_and_then as_str (get name d)) []

-- the error of that name
abbrev kinds : List ErrorKind
kinds =
    Long ∷ Json ∷ Shape ∷ Lane ∷ Id ∷ Empty ∷ Weight ∷ Reserved ∷ Key ∷ Contexts ∷ Boost ∷ K ∷ View
    ∷ Full ∷ Views ∷ []

abbrev kind_named : List ℕ → ErrorKind
kind_named name = unwrap_or (find (λ kind. bytes_eq (error_name kind) name) kinds) Long

kind_named-error_name : (kind : ErrorKind) → kind_named (error_name kind) ≡ kind
kind_named-error_name Long = refl
kind_named-error_name Json = refl
kind_named-error_name Shape = refl
kind_named-error_name Lane = refl
kind_named-error_name Id = refl
kind_named-error_name Empty = refl
kind_named-error_name Weight = refl
kind_named-error_name Reserved = refl
kind_named-error_name Key = refl
kind_named-error_name Contexts = refl
kind_named-error_name Boost = refl
kind_named-error_name K = refl
kind_named-error_name View = refl
kind_named-error_name Full = refl
kind_named-error_name Views = refl

-- the row that an item of `rows` tells
abbrev row_told : Data → Row
row_told d = record {
  id = text_at (codes "id") d;
  score = number_at (codes "score") d;
  seq = number_at (codes "seq") d;
  text = text_at (codes "text") d;
}

abbrev rows_told : Items → List Row
rows_told no_items = []
rows_told (item d ds) = row_told d ∷ rows_told ds

rows_told-row_data : (rs : List Row) → rows_told (items_of (map row_data rs)) ≡ rs
rows_told-row_data [] = refl
rows_told-row_data (r ∷ rs) = ap (λ (told : List Row). r ∷ told) (rows_told-row_data rs)

-- the truncation point that `cut` tells
abbrev cut_told : Data → PlainCut
cut_told d = record {
  score = number_at (codes "score") d;
  key = result_unwrap_or (decode_of (text_at (codes "key") d)) [];
  generation = number_at (codes "segment") d;
  room = number_at (codes "room") d;
}

cut_told-cut_data : (c : PlainCut) → IsBytes c.key → cut_told (cut_data c) ≡ c
cut_told-cut_data c bytes =
    ap (λ decoded. record {
      score = c.score;
      key = result_unwrap_or decoded [];
      generation = c.generation;
      room = c.room;
    }) (decode_of-encode_lower c.key bytes)

-- the reply that data tell, where they tell one: its name says which it is
abbrev told : Data → Reply
told d =
    if has_member (codes "seq") d
    then numbered (number_at (codes "line") d) (number_at (codes "seq") d)
    else if has_member (codes "view") d
    then opened (number_at (codes "line") d) (text_at (codes "view") d) (number_at (codes "upto") d)
    else if has_member (codes "closed") d
    then closed (number_at (codes "line") d) (text_at (codes "closed") d)
    else if has_member (codes "built") d
    then built (number_at (codes "line") d) (number_at (codes "built") d)
    else if has_member (codes "merged") d
    then merged (number_at (codes "line") d) (number_at (codes "merged") d)
    else if has_member (codes "accepted") d
    then accepted (number_at (codes "line") d) (number_at (codes "accepted") d)
    else if has_member (codes "error") d
    then failed (number_at (codes "line") d) (kind_named (text_at (codes "error") d))
    else rows (number_at (codes "line") d) (number_at (codes "upto") d)
    (rows_told (unwrap_or (option_and_then as_array (get (codes "rows") d)) no_items))
    (option_map cut_told (get (codes "cut") d))

-- it is the reply that they were made from
told-reply_data : (r : Reply) → HasByteKey r → told (reply_data r) ≡ r
told-reply_data (numbered line seq) bytes = refl
told-reply_data (rows line upto rs None) bytes =
    ap (λ (read : List Row). rows line upto read None) (rows_told-row_data rs)
told-reply_data (rows line upto rs (Some cut)) bytes =
    ap₂ (λ (read : List Row) (end : PlainCut). rows line upto read (Some end))
    (rows_told-row_data rs) (cut_told-cut_data cut bytes)
told-reply_data (opened line view upto) bytes = refl
told-reply_data (closed line view) bytes = refl
told-reply_data (built line count) bytes = refl
told-reply_data (merged line count) bytes = refl
told-reply_data (accepted line count) bytes = refl
told-reply_data (failed line kind) bytes = ap (failed line) (kind_named-error_name kind)

-- so two replies with the same data are one
pub told_apart : DataTellTheReply
told_apart one other bytes other_bytes same =
    sym (told-reply_data one bytes) ∙ ap told same ∙ told-reply_data other other_bytes
