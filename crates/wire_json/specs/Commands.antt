-- What a line asks for. Source: this project's own.
use Rattle.std.specs.Prelude.{ℕ, Bool, ◌||◌, ◌==◌, nat_lt, if◌then◌else◌}
use Rattle.std.specs.Prelude.{List, [], length, map, Option, unwrap_or, None}
use Rattle.std.specs.Option.{option_map_or}
use Rattle.std.specs.Str.{is_utf8}
use Rattle.std.specs.List.{list_all, filter_map}
use Rattle.std.specs.declared.result.Result.TheVariants.{Ok, Err}
use Rattle.serde_json.specs.Data.{Data}
use Rattle.serde_json.specs.Read.{read}
use Rattle.sg_analysis.specs.declared.analyzer.Analyzer.{Analyzer}
use Rattle.sg_context.specs.Queries.{PlainQuery}
use Rattle.sg_paths.specs.Documents.{PlainSuggestion, PlainDocument}
use Rattle.sg_paths.specs.Operations.{PlainOp, adds, updates, deletes}
use Rattle.wire_json.specs.Suggested.{Entry, entries_of, weight_of, contexts_given}
use Rattle.wire_json.specs.Suggested.{context_given}
use Rattle.wire_json.specs.Asked.{QueryOptions, query_context_of, rows_asked}
use Rattle.wire_json.specs.Forms.{Form, change, delete, suggest, open_view, close_view, form_of}
use Rattle.wire_json.specs.Forms.{flush, merge}
use Rattle.wire_json.specs.LineErrors.{Keyed, input_key, prefix_key, lane_of, error_of_form}
use Rattle.wire_json.specs.declared.forms.Change.{Change}
use Rattle.wire_json.specs.declared.forms.Change.TheVariants.{Add, Update}
use Rattle.wire_json.specs.declared.limits.TheConstants.{MOST_LINE_BYTES, DEFAULT_WEIGHT, DEFAULT_K}
use Rattle.wire_replies.specs.declared.error_kind.ErrorKind.{ErrorKind}
use Rattle.wire_replies.specs.declared.error_kind.ErrorKind.TheVariants.{Long, Json, Shape}

-- nothing; an operation for a worker; a query for a worker, in a view by name or in none; the other
-- words; or the error of the line itself
pub data Command : Type 0 where
  blank : Command
  accepts : ℕ → PlainOp → Command
  suggests : ℕ → PlainQuery → Option (List ℕ) → Command
  opens : ℕ → List ℕ → Command
  closes : ℕ → List ℕ → Command
  flushes : ℕ → Command
  merges : ℕ → Command
  barrier : Command
  refused : ErrorKind → Command

-- the key of a text that has one
abbrev pub key_or_empty : Keyed → List ℕ
key_or_empty (Ok k) = k
key_or_empty (Err fault) = []

-- the suggestion of an entry with its key, where it has no error
abbrev pub suggestion_by : Entry → Keyed → PlainSuggestion
suggestion_by e k =
    record {
      text = e.text;
      key = key_or_empty k;
      weight = unwrap_or (weight_of e.given) DEFAULT_WEIGHT;
      contexts = filter_map context_given (contexts_given e.given);
    }

-- the suggestion of an entry, where it has no error
abbrev pub suggestion_of : Analyzer → Entry → PlainSuggestion
suggestion_of analyzer e = suggestion_by e (input_key analyzer e.text)

-- the document of suggestions under an id
abbrev pub document_of : Analyzer → List ℕ → List Data → PlainDocument
document_of analyzer id ds =
    record { id = id; suggestions = map (suggestion_of analyzer) (entries_of ds) }

-- the operation that brings a document in
abbrev pub operation_by : Change → PlainDocument → PlainOp
operation_by Add d = adds d
operation_by Update d = updates d

-- the query for a prefix, where it has no error
abbrev pub query_of : Analyzer → List ℕ → QueryOptions → PlainQuery
query_of analyzer prefix o =
    record {
      prefix = key_or_empty (prefix_key analyzer prefix);
      contexts = map query_context_of o.contexts;
      k = unwrap_or (rows_asked o.k) DEFAULT_K;
    }

-- the worker of a line, where it has no error
abbrev pub lane_or_first : ℕ → Option Data → ℕ
lane_or_first lanes lane = unwrap_or (lane_of lanes lane) 0

-- what a form without an error asks for
abbrev pub command_by_form : Analyzer → ℕ → Form → Command
command_by_form analyzer lanes (change how lane id ds) =
    accepts (lane_or_first lanes lane) (operation_by how (document_of analyzer id ds))
command_by_form analyzer lanes (delete lane id) =
    accepts (lane_or_first lanes lane) (deletes id)
command_by_form analyzer lanes (suggest lane prefix o view) =
    suggests (lane_or_first lanes lane) (query_of analyzer prefix o) view
command_by_form analyzer lanes (open_view lane name) = opens (lane_or_first lanes lane) name
command_by_form analyzer lanes (close_view lane name) = closes (lane_or_first lanes lane) name
command_by_form analyzer lanes (flush lane) = flushes (lane_or_first lanes lane)
command_by_form analyzer lanes (merge lane) = merges (lane_or_first lanes lane)

-- the error of a form, else what it asks for
abbrev pub command_of_form : Analyzer → ℕ → Form → Command
command_of_form analyzer lanes f =
    option_map_or refused (error_of_form analyzer lanes f) (command_by_form analyzer lanes f)

-- by a value's form; one without a form is refused
abbrev pub command_of_value : Analyzer → ℕ → Data → Command
command_of_value analyzer lanes d =
    option_map_or (command_of_form analyzer lanes) (form_of d) (refused Shape)

-- a space, a tab or a carriage return
abbrev pub is_blank_byte : ℕ → Bool
is_blank_byte b = (b == 32) || ((b == 9) || (b == 13))

-- whether a line has no other byte
abbrev pub is_blank : List ℕ → Bool
is_blank = list_all is_blank_byte

-- whether a line has over 65,536 bytes
abbrev pub is_long : List ℕ → Bool
is_long line = nat_lt MOST_LINE_BYTES (length line)

-- the value of a line in UTF-8
abbrev pub value_of : List ℕ → Option Data
value_of line = if is_utf8 line then read line else None

-- by a line's value; one without a value is refused
abbrev pub command_of_text : Analyzer → ℕ → List ℕ → Command
command_of_text analyzer lanes line =
    option_map_or (command_of_value analyzer lanes) (value_of line) (refused Json)

-- what a line asks for, where there are so many workers
abbrev pub command_of : Analyzer → ℕ → List ℕ → Command
command_of analyzer lanes line =
    if is_long line then refused Long
    else (if is_blank line then blank else command_of_text analyzer lanes line)
