-- The code's forms, which borrow from a line's value, as plain data, and what the code knows of any
-- form. No public clause cites it. Source: this project's own.
use Rattle.std.specs.Prelude.{◌≡◌, true, List, map, Option, option_map, ⊤}
use Rattle.std.specs.Borrow.{Bor}
use Rattle.serde_json.specs.View.{view}
use Rattle.serde_json.specs.declared.value.Value.{Value}
use Rattle.wire_json.specs.Suggested.{entries_of}
use Rattle.wire_json.specs.Asked.{QueryOptions}
use Rattle.wire_json.specs.Forms as plain
use Rattle.wire_json.specs.EntryForms.{plain_entry}
use Rattle.wire_json.specs.declared.forms.GivenChange.{GivenChange}
use Rattle.wire_json.specs.declared.forms.GivenQuery.{GivenQuery}
use Rattle.wire_json.specs.declared.forms.Form.{Form}
use Rattle.wire_json.specs.declared.forms.Form.TheVariants.{Change, Delete, Suggest, OpenView}
use Rattle.wire_json.specs.declared.forms.Form.TheVariants.{CloseView, Flush, Merge}

-- a change as plain data
abbrev pub plain_change : GivenChange → plain.Form
plain_change given =
    plain.change given.how (option_map (λ v. view v.now) given.lane) given.id.now
    (map view given.suggestions.now)

-- the options of a query as plain data
abbrev pub plain_options : Option (Bor Value) → List Value → QueryOptions
plain_options k contexts =
    record { k = option_map (λ v. view v.now) k; contexts = map view contexts }

-- a query as plain data
abbrev pub plain_query : GivenQuery → plain.Form
plain_query given =
    plain.suggest (option_map (λ v. view v.now) given.lane) given.prefix.now
    (plain_options given.k given.contexts.now) (option_map (λ s. s.now) given.view)

-- a form as plain data
abbrev pub plain_form : Form → plain.Form
plain_form (Change given) = plain_change given
plain_form (Delete lane id) = plain.delete (option_map (λ v. view v.now) lane) id.now
plain_form (Suggest given) = plain_query given
plain_form (OpenView lane name) = plain.open_view (option_map (λ v. view v.now) lane) name.now
plain_form (CloseView lane name) = plain.close_view (option_map (λ v. view v.now) lane) name.now
plain_form (Flush lane) = plain.flush (option_map (λ v. view v.now) lane)
plain_form (Merge lane) = plain.merge (option_map (λ v. view v.now) lane)

-- the entries are those of the suggestions, 1 to 16
pub record EntriesFit (given : GivenChange) : Type 0 where
  pub are : map plain_entry given.entries.items ≡ entries_of (map view given.suggestions.now)
  pub document : plain.make_a_document (map view given.suggestions.now) ≡ true

-- where it is a change, its entries fit
abbrev pub HasItsEntries : Form → Type 0
HasItsEntries (Change given) = EntriesFit given
HasItsEntries (Delete lane id) = ⊤
HasItsEntries (Suggest given) = ⊤
HasItsEntries (OpenView lane name) = ⊤
HasItsEntries (CloseView lane name) = ⊤
HasItsEntries (Flush lane) = ⊤
HasItsEntries (Merge lane) = ⊤
