-- The check speaks of the keys of the form, and the document is that of its entries.
use Rattle.std.proofs.Common.{map, option_map, ap, ◌∙◌, subst}
use Rattle.serde_json.specs.View.{view}
use Rattle.wire_json.specs.EntryForms.{plain_entry}
use Rattle.wire_json.specs.ReadForms.{plain_change}
use Rattle.wire_json.specs.ReadyForms.{AreKeys}
use Rattle.wire_json.proofs.ReadyLemmas.{ready-entries_of}
use Rattle.wire_json.proofs.CommandLemmas.{refused-error_of_form, command-error_of_form}
use Rattle.wire_json.proofs.CommandLemmas.{keys_of-change, document_of-entries}
use Rattle.wire_json.proofs.CommandLemmas.{command_by_form-change}
use Rattle.wire_json.proofs.reading.change.Goals as goal

pub returns-in-Err-clause-refused : goal.returns-in-Err-clause-refused
returns-in-Err-clause-refused c =
    let given = c.args.given.now in
    let of = ap (map plain_entry) c.as_slice-entries.ensures.value ∙ c.requires.are in
    let lane = option_map (λ v. view v.now) given.lane in
    let same = keys_of-change c.args.analyzer.now given.how lane given.id.now
    (map view given.suggestions.now) _ _ of
    (c.as_slice.ensures.value ∙ c.in_ok-keys.ensures.value) in
    refused-error_of_form c.args.analyzer.now c.args.lanes (plain_change given)
    c.as_slice.result.now c.in-Err.error same c.in-Err.ensures.refused

pub document-requires-clause-ready : goal.document-requires-clause-ready
document-requires-clause-ready c =
    let of = ap (map plain_entry) c.as_slice-entries.ensures.value ∙ c.requires.are in
    ready-entries_of c.args.analyzer.now (map view c.args.given.now.suggestions.now) _
    c.in_ok-keys.keys.items of c.in_ok-keys.ensures.value
    (subst AreKeys c.as_slice.ensures.value c.in-Ok.ensures.keys) c.in_ok-keys.ensures.filled
    c.in-Ok.ensures.suggestions

pub returns-in_ok-document-in-Ok-clause-ok : goal.returns-in_ok-document-in-Ok-clause-ok
returns-in_ok-document-in-Ok-clause-ok c =
    let given = c.args.given.now in
    let lane = option_map (λ v. view v.now) given.lane in
    let ds = map view given.suggestions.now in
    let of = ap (map plain_entry) c.as_slice-entries.ensures.value ∙ c.requires.are in
    let same = keys_of-change c.args.analyzer.now given.how lane given.id.now ds _ _ of
    (c.as_slice.ensures.value ∙ c.in_ok-keys.ensures.value) in
    command-error_of_form c.args.analyzer.now c.args.lanes (plain_change given)
    c.as_slice.result.now same c.in-Ok.ensures.ok
    ∙ command_by_form-change c.args.analyzer.now c.args.lanes given.how lane given.id.now ds _ _ _
    c.lane_or_first.ensures c.operation.ensures
    (document_of-entries c.args.analyzer.now given.id.now ds _ _ _ of c.in_ok-keys.ensures.value
    c.in_ok-document-in-Ok.ensures)
