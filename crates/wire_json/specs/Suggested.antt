-- The suggestions of an `add` or `update` line. Source: the documents of Elasticsearch's completion
-- suggester, whose input is a text or a list, whose weight is a number or digits, and whose
-- contexts are a text or a list; the limits are this project's own.
use Rattle.std.specs.Prelude.{ℕ, Bool, false, ◌&&◌, ◌||◌, not, nat_le, nat_lt, if◌then◌else◌}
use Rattle.std.specs.Prelude.{is_none, is_some, List, [], length, map, flat_map, codes, Option}
use Rattle.std.specs.Prelude.{Some}
use Rattle.std.specs.Prelude.{None, option_and_then}
use Rattle.std.specs.Option.{option_map_or, option_or}
use Rattle.std.specs.List.{list_all, list_any, filter_map, position_from}
use Rattle.std.specs.Str.Parse.{digits_value}
use Rattle.serde_json.specs.Data.{Data, null, boolean, number, string, array, object}
use Rattle.serde_json.specs.Find.{as_str}
use Rattle.sg_base.specs.ReservedBytes.{is_reserved}
use Rattle.sg_base.specs.declared.limits.TheConstants.{MOST_WEIGHT, MOST_CONTEXT_BYTES}
use Rattle.sg_paths.specs.declared.limits.TheConstants.{MOST_CONTEXTS}
use Rattle.wire_json.specs.Members.{member_of, is_text, whole_of, listed, listed_at}
use Rattle.wire_json.specs.declared.limits.TheConstants.{DEFAULT_WEIGHT, MOST_WEIGHT_DIGITS}

-- the input of a suggestion: a text is its own, an object has a member
abbrev pub input_of : Data → Option Data
input_of null = None
input_of (boolean b) = None
input_of (number n) = None
input_of (string s) = Some (string s)
input_of (array ds) = None
input_of (object ms) = member_of (codes "input") (object ms)

-- whether it is a suggestion: it has an input, a text or a list of texts
abbrev pub is_suggestion : Data → Bool
is_suggestion d = option_map_or (λ i. list_all is_text (listed i)) (input_of d) false

-- the texts of a suggestion's input, in order
abbrev pub texts_of : Data → List (List ℕ)
texts_of d = filter_map as_str (option_map_or listed (input_of d) [])

-- a text to suggest, with the suggestion in which it is given
pub record Entry : Type 0 where
  pub text : List ℕ
  pub given : Data

-- the entry of a text in a suggestion
abbrev pub entry_of : Data → List ℕ → Entry
entry_of d t = record { text = t; given = d }

-- one entry a text
abbrev pub entries_in : Data → List Entry
entries_in d = map (entry_of d) (texts_of d)

-- the entries of all suggestions in order
abbrev pub entries_of : List Data → List Entry
entries_of = flat_map entries_in

-- an ASCII digit
abbrev pub is_digit : ℕ → Bool
is_digit b = nat_le 48 b && nat_le b 57

-- 1 to 20 ASCII digits
abbrev pub are_digits : List ℕ → Bool
are_digits s =
    nat_le 1 (length s) && (nat_le (length s) MOST_WEIGHT_DIGITS && list_all is_digit s)

-- the number that a text of digits writes
abbrev pub number_of_digits : List ℕ → Option ℕ
number_of_digits s = if are_digits s then Some (digits_value 10 s) else None

-- a number up to the greatest weight
abbrev pub weight_upto : ℕ → Option ℕ
weight_upto n = if nat_le n MOST_WEIGHT then Some n else None

-- a weight as it is given: a whole number, or digits
abbrev pub weight_given : Data → Option ℕ
weight_given d =
    option_and_then weight_upto
    (option_or (whole_of d) (option_and_then number_of_digits (as_str d)))

-- the weight of a suggestion, where it is within its limits; 1 where it is absent
abbrev pub weight_of : Data → Option ℕ
weight_of d = option_map_or weight_given (member_of (codes "weight") d) (Some DEFAULT_WEIGHT)

-- the contexts of a suggestion as they are given
abbrev pub contexts_given : Data → List Data
contexts_given = listed_at (codes "contexts")

-- the text of a context of a suggestion
abbrev pub context_given : Data → Option (List ℕ)
context_given d = as_str d

-- whether a byte of a text is reserved
abbrev pub has_reserved_byte : List ℕ → Bool
has_reserved_byte t = is_some (position_from is_reserved 0 t)

-- whether a text has at most the 63 bytes of a context
abbrev pub has_context_length : List ℕ → Bool
has_context_length t = nat_le (length t) MOST_CONTEXT_BYTES

-- whether a text that stands as a context has a reserved byte
abbrev pub is_reserved_context : Data → Bool
is_reserved_context d = option_map_or has_reserved_byte (context_given d) false

-- whether it is a text of a context's length
abbrev pub is_context_text : Data → Bool
is_context_text d = option_map_or has_context_length (context_given d) false

-- whether the weight that is given is out of its limits or of a wrong kind
abbrev pub has_wrong_weight : Data → Bool
has_wrong_weight d = is_none (weight_of d)

-- whether a context of a suggestion has a reserved byte
abbrev pub has_reserved_context : Data → Bool
has_reserved_context d = list_any is_reserved_context (contexts_given d)

-- whether a suggestion has over 16 contexts, or one that is no text or has over 63 bytes
abbrev pub has_wrong_contexts : Data → Bool
has_wrong_contexts d =
    nat_lt MOST_CONTEXTS (length (contexts_given d))
    || not (list_all is_context_text (contexts_given d))
