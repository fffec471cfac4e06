-- The analysis of a text. Source: this project's own, by NFKC (Unicode's annex 15) and full case
-- folding (the Unicode Standard, 3.13). Texts are bytes, characters are Unicode scalar values.
use Rattle.std.specs.Prelude.{◌≡◌, ℕ, Bool, true, false, ◌==◌, ◌&&◌, not, nat_lt, if◌then◌else◌}
use Rattle.std.specs.Prelude.{List, [], ◌∷◌, Result, Ok, Err}
use Rattle.std.specs.Prelude.{length, take, filter, slice_index, chars, encode_utf8_all}
use Rattle.std.specs.Char.{is_whitespace}
use Rattle.std.specs.List.{position_from, slice_split, join_by}
use Rattle.std.specs.Option.{option_map_or}
use Rattle.unicode_normalization.specs.Forms.{nfkc}
use Rattle.caseless.specs.Caseless.{default_case_fold}
use Rattle.sg_base.specs.Counts.{saturated}
use Rattle.sg_base.specs.ReservedBytes.{is_reserved}
use Rattle.sg_base.specs.declared.limits.TheConstants.{MOST_KEY_BYTES}
use Rattle.sg_base.specs.declared.reserved.TheConstants.{TOKEN_SEPARATOR}
use Rattle.sg_analysis.specs.declared.analyzer.Analyzer.{Analyzer}
use Rattle.sg_analysis.specs.declared.analyzer.KeyError.{KeyError}
use Rattle.sg_analysis.specs.declared.analyzer.KeyError.TheVariants.{Reserved, Empty, TooLong}
use Rattle.sg_analysis.specs.declared.analyzer.KeyError.TheVariants.{Memory}
use Rattle.sg_analysis.specs.declared.folding.TheConstants.{MOST_INPUT_CHARS}

-- the constant is the number of the limit
pub record AreLimits : Type 0 where
  pub input_chars : MOST_INPUT_CHARS ≡ 50

-- the characters that are read: with the cut the first 50, else all
abbrev pub characters_read : List ℕ → Bool → List ℕ
characters_read text cut = if cut then take MOST_INPUT_CHARS (chars text) else chars text

-- their NFKC form, with its case folded in full
unfoldable pub folded_characters : List ℕ → Bool → List ℕ
folded_characters text cut = default_case_fold (nfkc (characters_read text cut))

-- the parts between white space characters, also the empty ones
abbrev pub split_at_white_space : List ℕ → List (List ℕ)
split_at_white_space = slice_split is_whitespace

-- whether a part has a character
abbrev pub is_filled : List ℕ → Bool
is_filled part = not (length part == 0)

-- the parts that aren't empty
abbrev pub tokens : List ℕ → List (List ℕ)
tokens characters = filter is_filled (split_at_white_space characters)

-- what stands between two tokens
abbrev pub separator : Bool → List ℕ
separator separators = if separators then TOKEN_SEPARATOR ∷ [] else []

-- the tokens' UTF-8, joined by the separator
abbrev pub joined_tokens : Bool → List (List ℕ) → List ℕ
joined_tokens separators = join_by encode_utf8_all (separator separators)

-- what the analysis comes to: the key, or why there is none
abbrev pub Analysis : Type 0
Analysis = Result (List ℕ) KeyError

-- a key, unless it has too many bytes
abbrev pub analysis_of_joined : List ℕ → Analysis
analysis_of_joined bytes =
    if nat_lt MOST_KEY_BYTES (length bytes) then Err (TooLong (saturated (length bytes)))
    else Ok bytes

-- with the cut there must be a token
abbrev pub analysis_of_tokens : Bool → List (List ℕ) → Bool → Analysis
analysis_of_tokens separators ts cut =
    if cut && length ts == 0 then Err Empty else analysis_of_joined (joined_tokens separators ts)

-- the first reserved byte and its offset, else by the tokens
abbrev pub analysis_of_folded : Bool → List ℕ → Bool → Analysis
analysis_of_folded separators characters cut =
    let bytes = encode_utf8_all characters in
    option_map_or (λ at. Err (Reserved (slice_index bytes at) (saturated at)))
    (position_from is_reserved 0 bytes)
    (analysis_of_tokens separators (tokens characters) cut)

-- the analysis of a text, of which all is read or, with the cut, the front
abbrev pub analysis_of : Analyzer → List ℕ → Bool → Analysis
analysis_of analyzer text cut =
    analysis_of_folded analyzer.separators (folded_characters text cut) cut

-- whether the error is want of memory, which no analysis comes to
abbrev pub is_memory : KeyError → Bool
is_memory Memory = true
is_memory other = false
