-- The check speaks of the key of the prefix, and the query is that of the options.
use Rattle.std.proofs.Common.{[], ◌∷◌, option_map, ap, ◌∙◌}
use Rattle.serde_json.specs.View.{view}
use Rattle.wire_json.specs.LineErrors.{Keyed}
use Rattle.wire_json.specs.ReadForms.{plain_query, plain_options}
use Rattle.wire_json.proofs.CommandLemmas.{refused-error_of_form, command-error_of_form}
use Rattle.wire_json.proofs.CommandLemmas.{command_by_form-suggest, query_of-key}
use Rattle.wire_json.proofs.reading.suggest.Goals as goal

pub returns-in-Err-clause-refused : goal.returns-in-Err-clause-refused
returns-in-Err-clause-refused c =
    refused-error_of_form c.args.analyzer.now c.args.lanes (plain_query c.args.given)
    (c.in_ok-key.key ∷ []) c.in-Err.error (ap (λ (k : Keyed). k ∷ []) c.in_ok-key.ensures)
    c.in-Err.ensures.refused

pub returns-in_ok-view-in-Ok-clause-ok : goal.returns-in_ok-view-in-Ok-clause-ok
returns-in_ok-view-in-Ok-clause-ok c =
    let given = c.args.given in
    let options = plain_options given.k given.contexts.now in
    command-error_of_form c.args.analyzer.now c.args.lanes (plain_query given)
    (c.in_ok-key.key ∷ []) (ap (λ (key : Keyed). key ∷ []) c.in_ok-key.ensures)
    c.in-Ok.ensures.ok
    ∙ command_by_form-suggest c.args.analyzer.now c.args.lanes
    (option_map (λ v. view v.now) given.lane) given.prefix.now options
    (option_map (λ s. s.now) given.view) _ _ _ c.lane_or_first.ensures
    (query_of-key c.args.analyzer.now given.prefix.now options _ _ c.in_ok-key.ensures
    c.in_ok-query-in-Ok.ensures) c.in_ok-view-in-Ok.ensures
