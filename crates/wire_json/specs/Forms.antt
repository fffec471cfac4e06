-- The forms of a line: what its `op` asks for, with the members that it uses as they are given.
-- Source: this project's own.
use Rattle.std.specs.Prelude.{ℕ, Bool, ◌&&◌, nat_le, is_none, if◌then◌else◌, List, length, codes}
use Rattle.std.specs.Prelude.{Option, Some, None, option_map, option_and_then, bytes_eq}
use Rattle.std.specs.List.{list_all}
use Rattle.serde_json.specs.Data.{Data}
use Rattle.sg_paths.specs.declared.limits.TheConstants.{MOST_SUGGESTIONS}
use Rattle.wire_json.specs.Members.{member_of, text_of, listed_at}
use Rattle.wire_json.specs.Suggested.{is_suggestion, entries_of}
use Rattle.wire_json.specs.Asked.{QueryOptions}
use Rattle.wire_json.specs.declared.forms.Change.{Change}
use Rattle.wire_json.specs.declared.limits.TheConstants.{MOST_VIEW_NAME_BYTES}
use Rattle.wire_json.specs.declared.forms.Change.TheVariants.{Add, Update}

-- the worker as it is given, then: the id and the suggestions of a change; the id of a delete; the
-- prefix and the options of a query, and the view that it is in, if it is in one; the name of a view
-- that is opened, or closed; nothing more of a flush and a merge
pub data Form : Type 0 where
  change : Change → Option Data → List ℕ → List Data → Form
  delete : Option Data → List ℕ → Form
  suggest : Option Data → List ℕ → QueryOptions → Option (List ℕ) → Form
  open_view : Option Data → List ℕ → Form
  close_view : Option Data → List ℕ → Form
  flush : Option Data → Form
  merge : Option Data → Form

-- the worker as it is given
abbrev pub lane_given : Data → Option Data
lane_given = member_of (codes "lane")

-- whether they make a document: each is a suggestion, and they have 1 to 16 texts
abbrev pub make_a_document : List Data → Bool
make_a_document ds =
    list_all is_suggestion ds
    && (nat_le 1 (length (entries_of ds)) && nat_le (length (entries_of ds)) MOST_SUGGESTIONS)

-- a change of these suggestions under an id
abbrev pub change_of : Change → Data → List Data → Option Form
change_of how d ds =
    if make_a_document ds
    then option_map (λ id. change how (lane_given d) id ds) (text_of (codes "id") d)
    else None

-- a delete of an id
abbrev pub delete_of : Data → Option Form
delete_of d = option_map (λ id. delete (lane_given d) id) (text_of (codes "id") d)

-- the options of a query
abbrev pub options_of : Data → QueryOptions
options_of d =
    record { k = member_of (codes "k") d; contexts = listed_at (codes "contexts") d }

-- whether it is a name of a view: 1 to 255 bytes
abbrev pub is_view_name : List ℕ → Bool
is_view_name name = nat_le 1 (length name) && nat_le (length name) MOST_VIEW_NAME_BYTES

-- the name of a view, where it is given as one
abbrev pub view_name : Data → Option (List ℕ)
view_name d =
    option_and_then (λ name. if is_view_name name then Some name else None)
    (text_of (codes "view") d)

-- a query in a view, or in none; one in a view without a name has no form
abbrev pub suggest_in : Data → Option (Option (List ℕ)) → Option Form
suggest_in d None = None
suggest_in d (Some view) =
    option_map (λ p. suggest (lane_given d) p (options_of d) view) (text_of (codes "prefix") d)

-- the view that a query is in, if it is in one; nothing where that has no name
abbrev pub view_asked : Data → Option (Option (List ℕ))
view_asked d =
    if is_none (member_of (codes "view") d) then Some None else option_map Some (view_name d)

-- a query
abbrev pub suggest_of : Data → Option Form
suggest_of d = suggest_in d (view_asked d)

-- a view that is opened
abbrev pub open_view_of : Data → Option Form
open_view_of d = option_map (open_view (lane_given d)) (view_name d)

-- a view that is closed
abbrev pub close_view_of : Data → Option Form
close_view_of d = option_map (close_view (lane_given d)) (view_name d)

-- the form by the word of a line
abbrev pub form_by : Data → Option (List ℕ) → Option Form
form_by d None = None
form_by d (Some op) =
    if bytes_eq op (codes "add") then change_of Add d (listed_at (codes "suggest") d)
    else (if bytes_eq op (codes "update") then change_of Update d (listed_at (codes "suggest") d)
    else (if bytes_eq op (codes "delete") then delete_of d
    else (if bytes_eq op (codes "suggest") then suggest_of d
    else (if bytes_eq op (codes "open") then open_view_of d
    else (if bytes_eq op (codes "close") then close_view_of d
    else (if bytes_eq op (codes "flush") then Some (flush (lane_given d))
    else (if bytes_eq op (codes "merge") then Some (merge (lane_given d))
    else None)))))))

-- the form of a line's value, if it has one
abbrev pub form_of : Data → Option Form
form_of d = form_by d (text_of (codes "op") d)
