-- Suggestions and documents as plain data, and their limits. Source: Lucene's suggest.document; the
-- limits are this project's own.
use Rattle.std.specs.Prelude.{ℕ, Bool, true, false, ◌&&◌, nat_le, List, length, ◌≡◌, ◌≤◌, ◌<◌}
use Rattle.sg_base.specs.declared.limits.TheConstants.{MOST_WEIGHT}
use Rattle.sg_base.specs.Counts.{saturated}
use Rattle.sg_paths.specs.declared.limits.TheConstants.{MOST_TEXT_BYTES, MOST_CONTEXTS}
use Rattle.sg_paths.specs.declared.limits.TheConstants.{MOST_ID_BYTES, MOST_SUGGESTIONS}
use Rattle.sg_paths.specs.declared.suggestion.SuggestionError.{SuggestionError}
use Rattle.sg_paths.specs.declared.suggestion.SuggestionError.TheVariants.{TextLong, EmptyKey}
use Rattle.sg_paths.specs.declared.suggestion.SuggestionError.TheVariants.{Weight, Contexts}
use Rattle.sg_paths.specs.declared.document.DocumentError.{DocumentError}
use Rattle.sg_paths.specs.declared.document.DocumentError.TheVariants.{Id, NoSuggestion, TooMany}

-- whether an id has 1 to 255 bytes
abbrev pub is_id : List ℕ → Bool
is_id id = nat_le 1 (length id) && nat_le (length id) MOST_ID_BYTES

-- a text to suggest, with the key that finds it
pub record PlainSuggestion : Type 0 where
  pub text : List ℕ
  pub key : List ℕ
  pub weight : ℕ
  pub contexts : List (List ℕ)

-- an id with its suggestions
pub record PlainDocument : Type 0 where
  pub id : List ℕ
  pub suggestions : List PlainSuggestion

-- within the limits of a suggestion
pub record IsSuggestion (s : PlainSuggestion) : Type 0 where
  pub text_bytes : length s.text ≤ MOST_TEXT_BYTES
  pub has_key : 0 < length s.key
  pub most_weight : s.weight ≤ MOST_WEIGHT
  pub context_count : length s.contexts ≤ MOST_CONTEXTS

-- within the limits of a document
pub record IsDocument (d : PlainDocument) : Type 0 where
  pub has_id : 0 < length d.id
  pub id_bytes : length d.id ≤ MOST_ID_BYTES
  pub has_suggestion : 0 < length d.suggestions
  pub suggestion_count : length d.suggestions ≤ MOST_SUGGESTIONS

-- why it is refused as a suggestion: the first limit that it doesn't keep
abbrev pub RefusesSuggestion : PlainSuggestion → SuggestionError → Type 0
RefusesSuggestion s (TextLong bytes) =
    (MOST_TEXT_BYTES < length s.text) × (bytes ≡ saturated (length s.text))
RefusesSuggestion s EmptyKey = (length s.text ≤ MOST_TEXT_BYTES) × (length s.key ≡ 0)
RefusesSuggestion s (Weight weight) =
    (length s.text ≤ MOST_TEXT_BYTES) × (0 < length s.key)
    × (MOST_WEIGHT < s.weight) × (weight ≡ s.weight)
RefusesSuggestion s (Contexts count) =
    (length s.text ≤ MOST_TEXT_BYTES) × (0 < length s.key) × (s.weight ≤ MOST_WEIGHT)
    × (MOST_CONTEXTS < length s.contexts) × (count ≡ saturated (length s.contexts))

-- why it is refused as a document: the first limit that it doesn't keep
abbrev pub RefusesDocument : PlainDocument → DocumentError → Type 0
RefusesDocument d (Id bytes) = (is_id d.id ≡ false) × (bytes ≡ saturated (length d.id))
RefusesDocument d NoSuggestion = (is_id d.id ≡ true) × (length d.suggestions ≡ 0)
RefusesDocument d (TooMany count) =
    (is_id d.id ≡ true) × (MOST_SUGGESTIONS < length d.suggestions)
    × (count ≡ saturated (length d.suggestions))
