-- The tokens of a text, one after another.
use Rattle.std.proofs.Common.{◌≡◌, ◌<◌, ◌++◌, ℕ, Bool, true, false, cond}
use Rattle.std.proofs.Common.{List, [], ◌∷◌, length, chars, encode_utf8_all}
use Rattle.std.proofs.Common.{refl, sym, ap, ◌∙◌, subst, arith, append_assoc, length-append}
use Rattle.std.proofs.Common.{append-nil}
use Rattle.std.specs.Bool.{◌==◌}
use Rattle.std.specs.Char.{is_whitespace, is_not_whitespace, encode_utf8}
use Rattle.std.specs.List.{filter, list_all, flat_map}
use Rattle.std.specs.Str.{IsUtf8, NoCharPasses, NonePass, EmptyOrStartsWithPassing}
use Rattle.std.proofs.lemmas.Bool.{not-false, and_from}
use Rattle.std.proofs.lemmas.Bool.Decides.{nat_tests}
use Rattle.std.proofs.lemmas.Str.{encodes-append, encodes-chars, chars_past_char, chars-nil}
use Rattle.std.proofs.lemmas.Str.{IsUtf8-past_char, length-le-encodes}
use Rattle.sg_analysis.specs.Analysis.{split_at_white_space, is_filled, tokens, separator, joined_tokens}
use Rattle.sg_analysis.specs.Joining.{lead}
use Rattle.sg_analysis.proofs.TextLemmas.{chars-encoded}

-- what the tokens to come add, where it is said whether they are the first
abbrev pub continued : Bool → Bool → List (List ℕ) → List ℕ
continued separators true ts = joined_tokens separators ts
continued separators false ts = flat_map (λ t. separator separators ++ encode_utf8_all t) ts

-- white space in front makes no token
tokens-gap : (gap cs : List ℕ) → NonePass is_not_whitespace gap → tokens (gap ++ cs) ≡ tokens cs
tokens-gap [] cs none = refl
tokens-gap (g ∷ gap) cs none =
    let white : is_whitespace g ≡ true = not-false (is_whitespace g) none.0 in
    rw white (tokens-gap gap cs none.1)

-- a part that goes to the end
split-last : (part : List ℕ) → NonePass is_whitespace part → split_at_white_space part ≡ part ∷ []
split-last [] none = refl
split-last (x ∷ part) none = rw (none.0, split-last part none.1) refl

-- a part that goes to a white space character
split-part : (part cs : List ℕ) (w : ℕ) → NonePass is_whitespace part → is_whitespace w ≡ true
    → split_at_white_space (part ++ w ∷ cs) ≡ part ∷ split_at_white_space cs
split-part [] cs w none white = rw white refl
split-part (x ∷ part) cs w none white = rw (none.0, split-part part cs w none.1 white) refl

is_filled-some : (part : List ℕ) → 0 < length part → is_filled part ≡ true
is_filled-some [] some = absurd (omega arith)
is_filled-some (x ∷ part) some = grind (arith, nat_tests)

-- a token, and then the end or white space
tokens-token : (token rest more : List ℕ) → NonePass is_whitespace token → 0 < length token
    → EmptyOrStartsWithPassing is_whitespace rest more → IsUtf8 rest
    → tokens (token ++ chars rest) ≡ token ∷ tokens (chars rest)
tokens-token token [] more none some starts text =
    rw (chars-nil, append-nil token, split-last token none, is_filled-some token some) refl
tokens-token token (b ∷ bytes) more none some starts text =
    let next = starts (omega arith) in
    let front : chars (b ∷ bytes) ≡ next.0 ∷ chars more =
    chars_past_char (b ∷ bytes) more next.0 text next.2 in
    let part = split-part token (chars more) next.0 none next.1 in
    rw (front, part, is_filled-some token some, next.1) refl

-- what follows some characters of a text is text
IsUtf8-past_chars : (cs bytes rest : List ℕ) → IsUtf8 bytes → bytes ≡ encode_utf8_all cs ++ rest
    → IsUtf8 rest
IsUtf8-past_chars [] bytes rest text is = subst IsUtf8 is text
IsUtf8-past_chars (c ∷ cs) bytes rest text is =
    let first : bytes ≡ encode_utf8 c ++ (encode_utf8_all cs ++ rest) =
    is ∙ append_assoc (encode_utf8 c) (encode_utf8_all cs) rest in
    let behind = IsUtf8-past_char bytes (encode_utf8_all cs ++ rest) c text first in
    IsUtf8-past_chars cs (encode_utf8_all cs ++ rest) rest behind refl

-- what follows white space and a token is text
pub rest_is_text : (bytes gap token rest : List ℕ) → IsUtf8 bytes → bytes ≡ gap ++ (token ++ rest)
    → NoCharPasses is_not_whitespace gap → NoCharPasses is_whitespace token → IsUtf8 rest
rest_is_text bytes gap token rest text is spaces word =
    let behind = IsUtf8-past_chars spaces.0 bytes (token ++ rest) text (rw spaces.1 is) in
    IsUtf8-past_chars word.0 (token ++ rest) rest behind (rw word.1 refl)

encoded_some : (cs bytes : List ℕ) → encode_utf8_all cs ≡ bytes → 0 < length bytes → 0 < length cs
encoded_some [] bytes is some = omega (arith, ap length is)
encoded_some (c ∷ cs) bytes is some = omega arith

-- one step over a text: white space, a token, and what is left
tokens-step : (bytes gap token rest more : List ℕ) → IsUtf8 bytes → bytes ≡ gap ++ (token ++ rest)
    → NoCharPasses is_not_whitespace gap → (word : NoCharPasses is_whitespace token)
    → 0 < length token → EmptyOrStartsWithPassing is_whitespace rest more → IsUtf8 rest
    → tokens (chars bytes) ≡ word.0 ∷ tokens (chars rest)
tokens-step bytes gap token rest more text is spaces word some starts behind =
    let encoded : bytes ≡ encode_utf8_all (spaces.0 ++ (word.0 ++ chars rest)) =
    rw (
      encodes-append spaces.0 (word.0 ++ chars rest),
      encodes-append word.0 (chars rest),
      encodes-chars rest behind,
      spaces.1,
      word.1,
    ) is in
    let filled : 0 < length word.0 = encoded_some word.0 token word.1 some in
    let first = tokens-token word.0 rest more word.2 filled starts behind in
    rw (chars-encoded bytes (spaces.0 ++ (word.0 ++ chars rest)) text encoded)
    (tokens-gap spaces.0 (word.0 ++ chars rest) spaces.2 ∙ first)

continued-cons : (separators first : Bool) (t : List ℕ) (ts : List (List ℕ))
    → continued separators first (t ∷ ts)
    ≡ lead separators first ++ (encode_utf8_all t ++ continued separators false ts)
continued-cons separators true t ts = refl
continued-cons separators false t ts =
    append_assoc (separator separators) (encode_utf8_all t) (continued separators false ts)

continued-nil : (separators first : Bool) → continued separators first [] ≡ []
continued-nil separators true = refl
continued-nil separators false = refl

longer_than_none : (xs ys : List ℕ) → 0 < length ys → (length (xs ++ ys) == 0) ≡ false
longer_than_none xs ys some = grind (arith, nat_tests, length-append)

-- the invariant after one more token
pub continued_more : (separators : Bool) (out bytes gap token rest more whole : List ℕ)
    → IsUtf8 bytes → bytes ≡ gap ++ (token ++ rest)
    → NoCharPasses is_not_whitespace gap → NoCharPasses is_whitespace token → 0 < length token
    → EmptyOrStartsWithPassing is_whitespace rest more
    → out ++ continued separators (length out == 0) (tokens (chars bytes)) ≡ whole
    → let longer = (out ++ lead separators (length out == 0)) ++ token in
    longer ++ continued separators (length longer == 0) (tokens (chars rest)) ≡ whole
continued_more separators out bytes gap token rest more whole text is spaces word some starts done =
    let behind = rest_is_text bytes gap token rest text is spaces word in
    let step = tokens-step bytes gap token rest more text is spaces word some starts behind in
    let front = lead separators (length out == 0) in
    let begun : (length ((out ++ front) ++ token) == 0) ≡ false =
    longer_than_none (out ++ front) token some in
    let tail = continued separators false (tokens (chars rest)) in
    let opened : out ++ (front ++ (encode_utf8_all word.0 ++ tail)) ≡ whole =
    rw (← continued-cons separators (length out == 0) word.0 (tokens (chars rest)), ← step) done in
    rw begun (rw (append_assoc (out ++ front) token, append_assoc out front, ← word.1) opened)

-- the invariant at the end, where white space alone is left
pub continued_end : (separators : Bool) (out bytes whole : List ℕ)
    → NoCharPasses is_not_whitespace bytes → IsUtf8 bytes
    → out ++ continued separators (length out == 0) (tokens (chars bytes)) ≡ whole → out ≡ whole
continued_end separators out bytes whole spaces text done =
    let encoded : bytes ≡ encode_utf8_all (spaces.0 ++ []) = rw append-nil (sym spaces.1) in
    let none : tokens (chars bytes) ≡ [] =
    rw (chars-encoded bytes (spaces.0 ++ []) text encoded) (tokens-gap spaces.0 [] spaces.2) in
    let same : out ++ [] ≡ whole =
    rw (← continued-nil separators (length out == 0), ← none) done in
    sym (append-nil out) ∙ same

kept_filled : (keep : Bool) (part : List ℕ) (parts : List (List ℕ)) → is_filled part ≡ keep
    → list_all is_filled parts ≡ true → list_all is_filled (cond keep (part ∷ parts) parts) ≡ true
kept_filled true part parts is more = and_from _ _ is more
kept_filled false part parts is more = more

filter_filled : (parts : List (List ℕ)) → list_all is_filled (filter is_filled parts) ≡ true
filter_filled [] = refl
filter_filled (part ∷ parts) =
    kept_filled (is_filled part) part (filter is_filled parts) refl (filter_filled parts)

joined-empty : (separators : Bool) (ts : List (List ℕ)) → list_all is_filled ts ≡ true
    → (length (joined_tokens separators ts) == 0) ≡ (length ts == 0)
joined-empty separators [] filled = refl
joined-empty separators (t ∷ ts) filled =
    grind (arith, nat_tests, length-append, length-le-encodes t)

-- no byte is joined exactly where there is no token
pub joined_tokens-empty : (separators : Bool) (cs : List ℕ)
    → (length (joined_tokens separators (tokens cs)) == 0) ≡ (length (tokens cs) == 0)
joined_tokens-empty separators cs =
    joined-empty separators (tokens cs) (filter_filled (split_at_white_space cs))
