-- The JSON value of a reply has no float, so its compact text is exact, and it isn't deep, so that
-- text reads back.
use Rattle.std.proofs.Common.{◌≡◌, ◌≤◌, Bool, true, false, ◌||◌, List, [], ◌∷◌, map, refl}
use Rattle.std.proofs.Common.{Some, None, arith}
use Rattle.serde_json.specs.Data.{depth, items_depth}
use Rattle.serde_json.specs.View.{items_of}
use Rattle.serde_json.specs.Read.{max_depth}
use Rattle.serde_json.specs.Written.{has_float, items_have_float}
use Rattle.wire_replies.specs.Rows.{Row}
use Rattle.wire_replies.specs.Replies.{Reply, numbered, rows, opened, closed, built, merged}
use Rattle.wire_replies.specs.Replies.{accepted}
use Rattle.wire_replies.specs.Replies.{failed, row_data, reply_data}

rows_have_float : (rs : List Row) → items_have_float (items_of (map row_data rs)) ≡ false
rows_have_float [] = refl
rows_have_float (r ∷ rs) = rows_have_float rs

or_false : (b : Bool) → b ≡ false → (b || false) ≡ false
or_false true h = h
or_false false h = h

pub reply_data_has_float : (r : Reply) → has_float (reply_data r) ≡ false
reply_data_has_float (numbered line seq) = refl
reply_data_has_float (rows line upto rs None) = or_false _ (rows_have_float rs)
reply_data_has_float (rows line upto rs (Some cut)) = or_false _ (rows_have_float rs)
reply_data_has_float (opened line view upto) = refl
reply_data_has_float (closed line view) = refl
reply_data_has_float (built line count) = refl
reply_data_has_float (merged line count) = refl
reply_data_has_float (accepted line count) = refl
reply_data_has_float (failed line kind) = refl

-- a row nests one deep, so a reply at most three
rows_depth : (rs : List Row) → items_depth (items_of (map row_data rs)) ≤ 1
rows_depth [] = omega arith
rows_depth (r ∷ rs) = omega (arith, rows_depth rs)

pub depth-reply_data : (r : Reply) → depth (reply_data r) ≤ max_depth
depth-reply_data (numbered line seq) = omega arith
depth-reply_data (rows line upto rs None) = omega (arith, rows_depth rs)
depth-reply_data (rows line upto rs (Some cut)) = omega (arith, rows_depth rs)
depth-reply_data (opened line view upto) = omega arith
depth-reply_data (closed line view) = omega arith
depth-reply_data (built line count) = omega arith
depth-reply_data (merged line count) = omega arith
depth-reply_data (accepted line count) = omega arith
depth-reply_data (failed line kind) = omega arith
