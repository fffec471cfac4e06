-- Values of lines, and their commands.
use Rattle.std.proofs.Common.{◌≡◌, ℕ, Bool, true, false, cond, List, map, Option, Some}
use Rattle.std.proofs.Common.{None, refl, sym, ap, ◌∙◌, IfSome, unwrap_or}
use Rattle.std.specs.Option.{option_map_or}
use Rattle.std.specs.Str.{is_utf8, IsUtf8}
use Rattle.std.proofs.lemmas.Str.{IsUtf8-from_is_utf8, is_utf8-from_IsUtf8}
use Rattle.serde_json.specs.Data.{Data}
use Rattle.serde_json.specs.Read.{read}
use Rattle.sg_analysis.specs.declared.analyzer.Analyzer.{Analyzer}
use Rattle.sg_context.specs.Queries.{PlainQuery}
use Rattle.wire_json.specs.declared.limits.TheConstants.{DEFAULT_K}
use Rattle.sg_paths.specs.Documents.{PlainDocument}
use Rattle.sg_paths.specs.Operations.{PlainOp}
use Rattle.wire_json.specs.Suggested.{Entry, entries_of}
use Rattle.wire_json.specs.LineErrors.{Keyed, input_key, prefix_key, keys_of, errors_by, used}
use Rattle.wire_json.specs.LineErrors.{first_that_applies, error_of_form}
use Rattle.wire_json.specs.Forms.{Form, change, suggest}
use Rattle.wire_json.specs.Commands.{accepts, suggests, refused, document_of, query_of}
use Rattle.wire_json.specs.Asked.{QueryOptions, query_context_of, rows_asked}
use Rattle.wire_json.specs.Commands.{key_or_empty}
use Rattle.wire_json.specs.Commands.{suggestion_of, operation_by, lane_or_first, command_by_form}
use Rattle.wire_json.specs.Commands.{command_of_form, command_of_value, command_of_text, value_of}
use Rattle.wire_json.specs.CommandForms.{kind_of, Refuses}
use Rattle.wire_json.specs.ReadyForms.{suggestions_by}
use Rattle.wire_replies.specs.declared.error_kind.ErrorKind.{ErrorKind}
use Rattle.wire_replies.specs.declared.error_kind.ErrorKind.TheVariants.{Json}
use Rattle.wire_json.specs.declared.errors.LineError.{LineError}
use Rattle.wire_json.specs.declared.forms.Change.{Change}
use Rattle.wire_json.proofs.ReadyLemmas.{suggestions_by-keys}

pub value_of-read : (line : List ℕ) (d : Data) → IsUtf8 line → read line ≡ Some d
    → value_of line ≡ Some d
value_of-read line d text is = rw (is_utf8-from_IsUtf8 line text) is

unread_by : (b : Bool) (line : List ℕ) → is_utf8 line ≡ b → (IsUtf8 line → read line ≡ None)
    → cond b (read line) None ≡ None
unread_by true line is none = none (IsUtf8-from_is_utf8 line is)
unread_by false line is none = refl

pub value_of-unread : (line : List ℕ) → (IsUtf8 line → read line ≡ None) → value_of line ≡ None
value_of-unread line none = unread_by (is_utf8 line) line refl none

refused_by : (analyzer : Analyzer) (lanes : ℕ) (f : Form) (o : Option ErrorKind)
    → error_of_form analyzer lanes f ≡ o
    → IfSome o (λ kind. command_of_form analyzer lanes f ≡ refused kind)
refused_by analyzer lanes f None is = tt
refused_by analyzer lanes f (Some kind) is = rw is refl

-- a form is refused for the error that applies first
pub refused-error_of_form : (analyzer : Analyzer) (lanes : ℕ) (f : Form) (keys : List Keyed)
    (error : LineError) → keys ≡ keys_of analyzer f
    → first_that_applies (errors_by lanes (used f) keys) ≡ kind_of error
    → Refuses (command_of_form analyzer lanes f) error
refused-error_of_form analyzer lanes f keys error same is =
    refused_by analyzer lanes f (kind_of error)
    (ap (λ ks. first_that_applies (errors_by lanes (used f) ks)) (sym same) ∙ is)

-- without one it asks for its command
pub command-error_of_form : (analyzer : Analyzer) (lanes : ℕ) (f : Form) (keys : List Keyed)
    → keys ≡ keys_of analyzer f → first_that_applies (errors_by lanes (used f) keys) ≡ None
    → command_of_form analyzer lanes f ≡ command_by_form analyzer lanes f
command-error_of_form analyzer lanes f keys same is =
    let none : error_of_form analyzer lanes f ≡ None =
    ap (λ ks. first_that_applies (errors_by lanes (used f) ks)) (sym same) ∙ is in
    rw none refl

-- the keys of a change's entries are those that its form asks for
pub keys_of-change : (analyzer : Analyzer) (how : Change) (lane : Option Data) (id : List ℕ)
    (ds : List Data) (es : List Entry) (keys : List Keyed) → es ≡ entries_of ds
    → keys ≡ map (λ (e : Entry). input_key analyzer e.text) es
    → keys ≡ keys_of analyzer (change how lane id ds)
keys_of-change analyzer how lane id ds es keys of is =
    is ∙ ap (map (λ (e : Entry). input_key analyzer e.text)) of

-- the suggestions of a change's entries with their keys make its document
pub document_of-entries : (analyzer : Analyzer) (id : List ℕ) (ds : List Data) (es : List Entry)
    (keys : List Keyed) (d : PlainDocument) → es ≡ entries_of ds
    → keys ≡ map (λ (e : Entry). input_key analyzer e.text) es
    → d ≡ record { id = id; suggestions = suggestions_by es keys }
    → d ≡ document_of analyzer id ds
document_of-entries analyzer id ds es keys d of is make =
    make ∙ ap (λ ss. record { id = id; suggestions = ss })
    (ap (suggestions_by es) is ∙ suggestions_by-keys analyzer es
    ∙ ap (map (suggestion_of analyzer)) of)

-- a line of text goes by its value
pub command_of_text-by : (analyzer : Analyzer) (lanes : ℕ) (line : List ℕ) (d : Option Data)
    → value_of line ≡ d
    → command_of_text analyzer lanes line
    ≡ option_map_or (command_of_value analyzer lanes) d (refused Json)
command_of_text-by analyzer lanes line d is = rw is refl

pub command_by_form-change : (analyzer : Analyzer) (lanes : ℕ) (how : Change)
    (lane : Option Data) (id : List ℕ) (ds : List Data) (l : ℕ) (o : PlainOp) (d : PlainDocument)
    → l ≡ lane_or_first lanes lane → o ≡ operation_by how d → d ≡ document_of analyzer id ds
    → command_by_form analyzer lanes (change how lane id ds) ≡ accepts l o
command_by_form-change analyzer lanes how lane id ds l o d at is document =
    rw (at, is, document) refl

pub command_by_form-suggest : (analyzer : Analyzer) (lanes : ℕ) (lane : Option Data)
    (prefix : List ℕ) (o : QueryOptions) (view : Option (List ℕ)) (l : ℕ) (q : PlainQuery)
    (v : Option (List ℕ))
    → l ≡ lane_or_first lanes lane → q ≡ query_of analyzer prefix o → v ≡ view
    → command_by_form analyzer lanes (suggest lane prefix o view) ≡ suggests l q v
command_by_form-suggest analyzer lanes lane prefix o view l q v at is same = rw (at, is, same) refl

pub query_of-key : (analyzer : Analyzer) (prefix : List ℕ) (o : QueryOptions) (key : Keyed)
    (q : PlainQuery) → key ≡ prefix_key analyzer prefix
    → q ≡ record {
      prefix = key_or_empty key;
      contexts = map query_context_of o.contexts;
      k = unwrap_or (rows_asked o.k) DEFAULT_K;
    }
    → q ≡ query_of analyzer prefix o
query_of-key analyzer prefix o key q is make = rw (make, is) refl
