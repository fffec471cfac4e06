-- The errors of a line that has a form, in the order in which the first is taken. Source: this
-- project's own.
use Rattle.std.specs.Prelude.{ℕ, Bool, true, false, ◌||◌, not, nat_le, nat_lt, is_none, find}
use Rattle.std.specs.Prelude.{if◌then◌else◌, List, [], ◌∷◌, length, map, Option, Some, None}
use Rattle.std.specs.Prelude.{option_map, option_and_then}
use Rattle.std.specs.Option.{option_map_or}
use Rattle.std.specs.List.{list_any}
use Rattle.std.specs.declared.result.Result.{Result}
use Rattle.std.specs.declared.result.Result.TheVariants.{Ok, Err}
use Rattle.serde_json.specs.Data.{Data}
use Rattle.sg_analysis.specs.Analysis.{Analysis, analysis_of}
use Rattle.sg_analysis.specs.declared.analyzer.KeyError.TheVariants as none
use Rattle.sg_analysis.specs.declared.analyzer.Analyzer.{Analyzer}
use Rattle.sg_paths.specs.Documents.{is_id}
use Rattle.sg_paths.specs.declared.limits.TheConstants.{MOST_TEXT_BYTES}
use Rattle.wire_json.specs.Members.{whole_of}
use Rattle.wire_json.specs.Suggested.{entries_of, has_wrong_weight, has_reserved_context}
use Rattle.wire_json.specs.Suggested.{has_wrong_contexts}
use Rattle.wire_json.specs.Asked.{QueryOptions, ask_for_reserved_context, have_wrong_contexts}
use Rattle.wire_json.specs.Asked.{have_wrong_boost, have_wrong_row_count}
use Rattle.wire_json.specs.Forms.{Form, change, delete, suggest, open_view, close_view}
use Rattle.wire_json.specs.Forms.{flush, merge}
use Rattle.wire_json.specs.declared.keys.KeyFault.{KeyFault}
use Rattle.wire_json.specs.declared.keys.KeyFault.TheVariants as faults
use Rattle.wire_replies.specs.declared.error_kind.ErrorKind.{ErrorKind}
use Rattle.wire_replies.specs.declared.error_kind.ErrorKind.TheVariants.{Lane, Id, Empty, Weight}
use Rattle.wire_replies.specs.declared.error_kind.ErrorKind.TheVariants.{Reserved, Key, Contexts}
use Rattle.wire_replies.specs.declared.error_kind.ErrorKind.TheVariants.{Boost, K}

-- the key of a text, or the first reason why it has none
abbrev pub Keyed : Type 0
Keyed = Result (List ℕ) KeyFault

-- the key of a text of at most 1,024 bytes
abbrev pub keyed_by : List ℕ → Analysis → Keyed
keyed_by text (Ok k) = if nat_le (length text) MOST_TEXT_BYTES then Ok k else Err faults.TooLong
keyed_by text (Err (none.Reserved byte at)) = Err faults.Reserved
keyed_by text (Err none.Empty) = Err faults.Empty
keyed_by text (Err other) = Err faults.TooLong

-- the key of an input, which is analysed with the cut
abbrev pub input_key : Analyzer → List ℕ → Keyed
input_key analyzer text = keyed_by text (analysis_of analyzer text true)

-- the key of a query's prefix, which is analysed without it
abbrev pub prefix_key : Analyzer → List ℕ → Keyed
prefix_key analyzer text = keyed_by text (analysis_of analyzer text false)

-- the keys of a form's texts, or why they have none
abbrev pub keys_of : Analyzer → Form → List Keyed
keys_of analyzer (change how lane id ds) = map (λ e. input_key analyzer e.text) (entries_of ds)
keys_of analyzer (delete lane id) = []
keys_of analyzer (suggest lane prefix o view) = prefix_key analyzer prefix ∷ []
keys_of analyzer (open_view lane name) = []
keys_of analyzer (close_view lane name) = []
keys_of analyzer (flush lane) = []
keys_of analyzer (merge lane) = []

-- whether a text has no token
abbrev pub is_refused_as_empty : Keyed → Bool
is_refused_as_empty (Ok k) = false
is_refused_as_empty (Err faults.Empty) = true
is_refused_as_empty (Err faults.Reserved) = false
is_refused_as_empty (Err faults.TooLong) = false

-- whether a reserved byte stands in a folded text
abbrev pub is_refused_as_reserved : Keyed → Bool
is_refused_as_reserved (Ok k) = false
is_refused_as_reserved (Err faults.Empty) = false
is_refused_as_reserved (Err faults.Reserved) = true
is_refused_as_reserved (Err faults.TooLong) = false

-- whether a text or its key is too long
abbrev pub is_refused_as_too_long : Keyed → Bool
is_refused_as_too_long (Ok k) = false
is_refused_as_too_long (Err faults.Empty) = false
is_refused_as_too_long (Err faults.Reserved) = false
is_refused_as_too_long (Err faults.TooLong) = true

-- the worker, of so many, where it is one of them; the first where it is absent
abbrev pub lane_of : ℕ → Option Data → Option ℕ
lane_of lanes lane =
    option_map_or (λ d. option_and_then (λ n. if nat_lt n lanes then Some n else None) (whole_of d))
    lane (Some 0)

-- what a form uses of its line, as it is given, beside the texts that have keys
pub record Used : Type 0 where
  pub lane : Option Data
  pub id : Option (List ℕ)
  pub suggestions : List Data
  pub options : Option QueryOptions

-- what a change of suggestions uses
abbrev pub used_by_change : Option Data → List ℕ → List Data → Used
used_by_change lane id ds =
    record { lane = lane; id = Some id; suggestions = ds; options = None }

-- what a delete uses
abbrev pub used_by_delete : Option Data → List ℕ → Used
used_by_delete lane id = record { lane = lane; id = Some id; suggestions = []; options = None }

-- what a query uses
abbrev pub used_by_query : Option Data → QueryOptions → Used
used_by_query lane o = record { lane = lane; id = None; suggestions = []; options = Some o }

-- what a form uses that has its worker alone, or a view's name with it
abbrev pub used_by_lane : Option Data → Used
used_by_lane lane = record { lane = lane; id = None; suggestions = []; options = None }

-- what each form uses
abbrev pub used : Form → Used
used (change how lane id ds) = used_by_change lane id ds
used (delete lane id) = used_by_delete lane id
used (suggest lane prefix o view) = used_by_query lane o
used (open_view lane name) = used_by_lane lane
used (close_view lane name) = used_by_lane lane
used (flush lane) = used_by_lane lane
used (merge lane) = used_by_lane lane

-- the errors in order, each with whether it applies
abbrev pub errors_by : ℕ → Used → List Keyed → List (ErrorKind × Bool)
errors_by lanes u keys =
    (Lane, is_none (lane_of lanes u.lane)) ∷
    (Id, option_map_or (λ id. not (is_id id)) u.id false) ∷
    (Empty, list_any is_refused_as_empty keys) ∷
    (Weight, list_any has_wrong_weight u.suggestions) ∷ (
      Reserved,
      list_any is_refused_as_reserved keys
          || (list_any has_reserved_context u.suggestions
          || option_map_or ask_for_reserved_context u.options false),
    ) ∷
    (Key, list_any is_refused_as_too_long keys) ∷ (
      Contexts,
      list_any has_wrong_contexts u.suggestions
          || option_map_or have_wrong_contexts u.options false,
    ) ∷
    (Boost, option_map_or have_wrong_boost u.options false) ∷
    (K, option_map_or have_wrong_row_count u.options false) ∷ []

-- the first that applies
abbrev pub first_that_applies : List (ErrorKind × Bool) → Option ErrorKind
first_that_applies errors = option_map (λ e. e.0) (find (λ e. e.1) errors)

-- the error of a line by its form, if it has one
abbrev pub error_of_form : Analyzer → ℕ → Form → Option ErrorKind
error_of_form analyzer lanes f = first_that_applies (errors_by lanes (used f) (keys_of analyzer f))
