-- The bytes of a key: tokens of a text without a reserved byte have none that a key may not have.
use Rattle.std.proofs.Common.{◌≡◌, ◌+◌, ℕ, Bool, true, false, cond, Some}
use Rattle.std.proofs.Common.{None}
use Rattle.std.proofs.Common.{List, [], ◌∷◌, ◌++◌, chars, encode_utf8_all}
use Rattle.std.proofs.Common.{refl, sym, ◌∙◌, arith}
use Rattle.std.specs.Char.{is_whitespace, encode_utf8}
use Rattle.std.specs.List.{position_from, list_all, filter, flat_map, onto_first}
use Rattle.std.proofs.lemmas.Bool.{and_from, and_parts}
use Rattle.std.proofs.lemmas.Bool.Decides.{nat_tests}
use Rattle.std.specs.Str.{IsUtf8}
use Rattle.std.proofs.lemmas.Str.{encodes-chars}
use Rattle.std.proofs.lemmas.List.Folds.{list_all-append}
use Rattle.sg_base.specs.Keys.{is_key_byte}
use Rattle.sg_base.specs.ReservedBytes.{is_reserved}
use Rattle.sg_analysis.specs.Analysis.{split_at_white_space, is_filled, tokens, separator}
use Rattle.sg_analysis.specs.Analysis.{joined_tokens}

-- whether each byte may stand in a key
abbrev has_key_bytes : List ℕ → Bool
has_key_bytes = list_all is_key_byte

-- whether each byte of each part may
abbrev all_have_key_bytes : List (List ℕ) → Bool
all_have_key_bytes = list_all (λ part. has_key_bytes (encode_utf8_all part))

append-key_bytes : (xs ys : List ℕ) → has_key_bytes xs ≡ true → has_key_bytes ys ≡ true
    → has_key_bytes (xs ++ ys) ≡ true
append-key_bytes xs ys front behind = list_all-append is_key_byte xs ys ∙ and_from _ _ front behind

split-key_bytes : (xs ys : List ℕ) → has_key_bytes (xs ++ ys) ≡ true
    → (has_key_bytes xs ≡ true) × (has_key_bytes ys ≡ true)
split-key_bytes xs ys both = and_parts _ _ (sym (list_all-append is_key_byte xs ys) ∙ both)

key_byte_from_not_reserved : (b : ℕ) → is_reserved b ≡ false → is_key_byte b ≡ true
key_byte_from_not_reserved b is = grind (arith, nat_tests)

key_bytes_step : (here : Bool) (b : ℕ) (bytes : List ℕ) (i : ℕ) → is_reserved b ≡ here
    → cond here (Some i) (position_from is_reserved (i + 1) bytes) ≡ None
    → (position_from is_reserved (i + 1) bytes ≡ None → has_key_bytes bytes ≡ true)
    → has_key_bytes (b ∷ bytes) ≡ true
key_bytes_step true b bytes i is none more = cc
key_bytes_step false b bytes i is none more =
    and_from _ _ (key_byte_from_not_reserved b is) (more none)

key_bytes_from_none : (bytes : List ℕ) (i : ℕ) → position_from is_reserved i bytes ≡ None
    → has_key_bytes bytes ≡ true
key_bytes_from_none [] i none = refl
key_bytes_from_none (b ∷ bytes) i none =
    key_bytes_step (is_reserved b) b bytes i refl none (key_bytes_from_none bytes (i + 1))

onto_first-key_bytes : (c : ℕ) (parts : List (List ℕ)) → has_key_bytes (encode_utf8 c) ≡ true
    → all_have_key_bytes parts ≡ true → all_have_key_bytes (onto_first c parts) ≡ true
onto_first-key_bytes c [] here more =
    and_from _ _ (append-key_bytes (encode_utf8 c) [] here refl) refl
onto_first-key_bytes c (part ∷ parts) here more =
    let both = and_parts (has_key_bytes (encode_utf8_all part)) (all_have_key_bytes parts) more in
    and_from _ _ (append-key_bytes (encode_utf8 c) (encode_utf8_all part) here both.0) both.1

part-key_bytes : (white : Bool) (c : ℕ) (parts : List (List ℕ))
    → has_key_bytes (encode_utf8 c) ≡ true → all_have_key_bytes parts ≡ true
    → all_have_key_bytes (cond white ([] ∷ parts) (onto_first c parts)) ≡ true
part-key_bytes true c parts here more = more
part-key_bytes false c parts here more = onto_first-key_bytes c parts here more

parts-key_bytes : (cs : List ℕ) → has_key_bytes (encode_utf8_all cs) ≡ true
    → all_have_key_bytes (split_at_white_space cs) ≡ true
parts-key_bytes [] all = refl
parts-key_bytes (c ∷ cs) all =
    let both = split-key_bytes (encode_utf8 c) (encode_utf8_all cs) all in
    part-key_bytes (is_whitespace c) c (split_at_white_space cs) both.0 (parts-key_bytes cs both.1)

kept-key_bytes : (keep : Bool) (part : List ℕ) (parts : List (List ℕ))
    → has_key_bytes (encode_utf8_all part) ≡ true → all_have_key_bytes parts ≡ true
    → all_have_key_bytes (cond keep (part ∷ parts) parts) ≡ true
kept-key_bytes true part parts here more = and_from _ _ here more
kept-key_bytes false part parts here more = more

filter-key_bytes : (parts : List (List ℕ)) → all_have_key_bytes parts ≡ true
    → all_have_key_bytes (filter is_filled parts) ≡ true
filter-key_bytes [] all = refl
filter-key_bytes (part ∷ parts) all =
    let both = and_parts (has_key_bytes (encode_utf8_all part)) (all_have_key_bytes parts) all in
    let more = filter-key_bytes parts both.1 in
    kept-key_bytes (is_filled part) part (filter is_filled parts) both.0 more

separator-key_bytes : (separators : Bool) → has_key_bytes (separator separators) ≡ true
separator-key_bytes true = refl
separator-key_bytes false = refl

behind-key_bytes : (separators : Bool) (ts : List (List ℕ)) → all_have_key_bytes ts ≡ true
    → has_key_bytes (flat_map (λ t. separator separators ++ encode_utf8_all t) ts) ≡ true
behind-key_bytes separators [] all = refl
behind-key_bytes separators (t ∷ ts) all =
    let both = and_parts (has_key_bytes (encode_utf8_all t)) (all_have_key_bytes ts) all in
    let front = separator-key_bytes separators in
    let here = append-key_bytes (separator separators) (encode_utf8_all t) front both.0 in
    let more = behind-key_bytes separators ts both.1 in
    append-key_bytes (separator separators ++ encode_utf8_all t) _ here more

joined-key_bytes : (separators : Bool) (ts : List (List ℕ)) → all_have_key_bytes ts ≡ true
    → has_key_bytes (joined_tokens separators ts) ≡ true
joined-key_bytes separators [] all = refl
joined-key_bytes separators (t ∷ ts) all =
    let both = and_parts (has_key_bytes (encode_utf8_all t)) (all_have_key_bytes ts) all in
    append-key_bytes (encode_utf8_all t) _ both.0 (behind-key_bytes separators ts both.1)

-- where no byte is reserved, the joined tokens have key bytes alone
joined_tokens-key_bytes : (separators : Bool) (cs : List ℕ)
    → position_from is_reserved 0 (encode_utf8_all cs) ≡ None
    → has_key_bytes (joined_tokens separators (tokens cs)) ≡ true
joined_tokens-key_bytes separators cs none =
    let parts = parts-key_bytes cs (key_bytes_from_none (encode_utf8_all cs) 0 none) in
    joined-key_bytes separators (tokens cs) (filter-key_bytes (split_at_white_space cs) parts)

-- the same of a text's characters
pub joined_text-key_bytes : (separators : Bool) (text : List ℕ) → IsUtf8 text
    → position_from is_reserved 0 text ≡ None
    → list_all is_key_byte (joined_tokens separators (tokens (chars text))) ≡ true
joined_text-key_bytes separators text utf8 none =
    joined_tokens-key_bytes separators (chars text) (rw (encodes-chars text utf8) none)
