-- No compact text has a line feed, so with one behind it the text is a line.
use Rattle.std.proofs.Common.{◌≡◌, ℕ, zero, suc, ◌+◌, ◌/◌, ◌%◌, ◌==◌, pos, negsuc, List, [], ◌∷◌}
use Rattle.std.proofs.Common.{◌++◌, Bool, true, false, cond, decimal, refl, ap, ◌∙◌, arith}
use Rattle.std.proofs.lemmas.Bool.{or_parts}
use Rattle.std.proofs.lemmas.List.Folds.{list_any-append}
use Rattle.std.proofs.lemmas.Grind.{common_steps}
use Rattle.std.specs.List.{list_any, position_or_len}
use Rattle.std.specs.Fmt.{digits, digits_onto, digit_glyph}
use Rattle.json.specs.Print.{escape_byte, escape, quoted}
use Rattle.serde_json.specs.Data.{Num, unsigned, negative, float, Data, null, boolean, number}
use Rattle.serde_json.specs.Data.{string, array, object, Items, no_items, item, Members, no_members}
use Rattle.serde_json.specs.Data.{member}
use Rattle.serde_json.specs.Written.{number_text, comma_if, compact_text, items_text, members_text}
use Rattle.wire_replies.specs.WrittenReplies.{before_line_feed}

-- whether a line feed is among the bytes
abbrev pub has_line_feed : List ℕ → Bool
has_line_feed bytes = list_any (λ byte. byte == 10) bytes

-- two texts without one have none together, and neither has a choice between them
none_in-append : (xs ys : List ℕ) → has_line_feed xs ≡ false → has_line_feed ys ≡ false
    → has_line_feed (xs ++ ys) ≡ false
none_in-append xs ys x-none y-none =
    list_any-append (λ byte. byte == 10) xs ys ∙ rw (x-none, y-none) refl

none_in-cond : (b : Bool) (xs ys : List ℕ) → has_line_feed xs ≡ false → has_line_feed ys ≡ false
    → has_line_feed (cond b xs ys) ≡ false
none_in-cond true xs ys x-none y-none = x-none
none_in-cond false xs ys x-none y-none = y-none

-- a control character is escaped, and a line feed is one
none_in-escape_byte : (x : ℕ) → has_line_feed (escape_byte x) ≡ false
unfolding escape_byte
none_in-escape_byte x = grind (arith, common_steps)

none_in-escape : (s : List ℕ) → has_line_feed (escape s) ≡ false
none_in-escape [] = refl
none_in-escape (x ∷ s) =
    none_in-append (escape_byte x) (escape s) (none_in-escape_byte x) (none_in-escape s)

none_in-quoted : (s : List ℕ) → has_line_feed (quoted s) ≡ false
none_in-quoted s = none_in-append (escape s) (34 ∷ []) (none_in-escape s) refl

-- a digit is none
digit_glyph-line_feed : (d : ℕ) → (digit_glyph false d == 10) ≡ false
digit_glyph-line_feed d = grind (arith, common_steps)

none_in-digits_onto : (k n : ℕ) (ds : List ℕ) → has_line_feed ds ≡ false
    → has_line_feed (digits_onto k 10 false n ds) ≡ false
none_in-digits_onto zero n ds none = none
none_in-digits_onto (suc k) n ds none =
    let more = digit_glyph false (n % 10) ∷ ds in
    let here : has_line_feed more ≡ false = rw (digit_glyph-line_feed (n % 10)) none in
    none_in-cond (n / 10 == 0) more (digits_onto k 10 false (n / 10) more) here
    (none_in-digits_onto k (n / 10) more here)

none_in-decimal : (n : ℕ) → has_line_feed (decimal n) ≡ false
unfolding digits
none_in-decimal n = none_in-digits_onto 64 n [] refl

-- a number's text is digits, behind a minus where it is negative
none_in-number_text : (n : Num) → has_line_feed (number_text n) ≡ false
none_in-number_text (unsigned n) = none_in-decimal n
none_in-number_text (negative (pos n)) = none_in-decimal n
none_in-number_text (negative (negsuc n)) = none_in-decimal (suc n)
none_in-number_text (float x) = refl

none_in-comma_if : (later : Bool) → has_line_feed (comma_if later) ≡ false
none_in-comma_if true = refl
none_in-comma_if false = refl

-- the rest of a compact text is brackets, colons, commas and words
mutual
  pub none_in-compact_text : (d : Data) → has_line_feed (compact_text d) ≡ false
  none_in-compact_text null = refl
  none_in-compact_text (boolean true) = refl
  none_in-compact_text (boolean false) = refl
  none_in-compact_text (number n) = none_in-number_text n
  none_in-compact_text (string s) = none_in-quoted s
  none_in-compact_text (array ds) = none_in-items_text false ds
  none_in-compact_text (object ms) = none_in-members_text false ms

  none_in-items_text : (later : Bool) (ds : Items) → has_line_feed (items_text later ds) ≡ false
  none_in-items_text later no_items = refl
  none_in-items_text later (item d ds) =
      none_in-append (comma_if later) _ (none_in-comma_if later)
      (none_in-append (compact_text d) _ (none_in-compact_text d) (none_in-items_text true ds))

  none_in-members_text : (later : Bool) (ms : Members)
      → has_line_feed (members_text later ms) ≡ false
  none_in-members_text later no_members = refl
  none_in-members_text later (member k d ms) =
      none_in-append (comma_if later) _ (none_in-comma_if later)
      (none_in-append (quoted k) _ (none_in-quoted k)
      (none_in-append (compact_text d) _ (none_in-compact_text d) (none_in-members_text true ms)))

one_more : (n : ℕ) → 1 + n ≡ suc n
one_more n = omega arith

-- a byte in front, where the rest is known
before_line_feed-cons : (x : ℕ) (xs ys : List ℕ) → (x == 10) ≡ false → before_line_feed xs ≡ ys
    → before_line_feed (x ∷ xs) ≡ x ∷ ys
before_line_feed-cons x xs ys ends rest =
    let step = one_more (position_or_len (λ byte. byte == 10) xs) in
    rw (ends, step) (ap (λ (text : List ℕ). x ∷ text) rest)

-- what stands before the only line feed
before_line_feed-none : (xs : List ℕ) → has_line_feed xs ≡ false
    → before_line_feed (xs ++ 10 ∷ []) ≡ xs
before_line_feed-none [] none = refl
before_line_feed-none (x ∷ xs) none =
    let p = or_parts (x == 10) (has_line_feed xs) none in
    before_line_feed-cons x (xs ++ 10 ∷ []) xs p.0 (before_line_feed-none xs p.1)

-- the same of a compact text
pub before_line_feed-compact_text : (d : Data)
    → before_line_feed (compact_text d ++ 10 ∷ []) ≡ compact_text d
before_line_feed-compact_text d = before_line_feed-none (compact_text d) (none_in-compact_text d)
