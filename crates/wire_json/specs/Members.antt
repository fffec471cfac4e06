-- The members of a JSON value that a line uses. Source: this project's own, over `serde_json`'s
-- reading, which keeps the last of the members with one name.
use Rattle.std.specs.Prelude.{ℕ, Bool, is_some, List, [], ◌∷◌, Option, Some, None, option_and_then}
use Rattle.std.specs.Option.{option_map_or}
use Rattle.serde_json.specs.Data.{Data, null, boolean, number, string, array, object, Items}
use Rattle.serde_json.specs.Data.{no_items, item}
use Rattle.serde_json.specs.Find.{get, as_str, as_array, as_number, as_u64}

-- a value that isn't null
abbrev pub unless_null : Data → Option Data
unless_null null = None
unless_null (boolean b) = Some (boolean b)
unless_null (number n) = Some (number n)
unless_null (string s) = Some (string s)
unless_null (array ds) = Some (array ds)
unless_null (object ms) = Some (object ms)

-- a member that is there and isn't null
abbrev pub member_of : List ℕ → Data → Option Data
member_of name d = option_and_then unless_null (get name d)

-- a member that is a text
abbrev pub text_of : List ℕ → Data → Option (List ℕ)
text_of name d = option_and_then as_str (member_of name d)

-- whether it is a text
abbrev pub is_text : Data → Bool
is_text d = is_some (as_str d)

-- a number that is held as an unsigned 64-bit number
abbrev pub whole_of : Data → Option ℕ
whole_of d = option_and_then as_u64 (as_number d)

-- the items of a list
abbrev pub list_of : Items → List Data
list_of no_items = []
list_of (item d ds) = d ∷ list_of ds

-- one thing, or a list of them
abbrev pub listed : Data → List Data
listed d = option_map_or list_of (as_array d) (d ∷ [])

-- what a member lists: nothing where it is absent
abbrev pub listed_at : List ℕ → Data → List Data
listed_at name d = option_map_or listed (member_of name d) []
