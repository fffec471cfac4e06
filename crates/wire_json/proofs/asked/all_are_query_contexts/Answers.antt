-- Where all are tested, all are tested by their views.
use Rattle.std.proofs.Common.{rules, ◌∙◌, tests}
use Rattle.std.proofs.lemmas.Iterator.{YieldsList-from_slice}
use Rattle.std.proofs.lemmas.Iterator.Search.{all_from_yields_List}
use Rattle.serde_json.specs.View.{view}
use Rattle.wire_json.specs.Asked.{is_query_context}
use Rattle.wire_json.proofs.MemberLemmas.{list_all_of_views}
use Rattle.wire_json.proofs.asked.all_are_query_contexts.Goals as goal

pub returns : goal.returns
returns c =
    let values = all_from_yields_List (λ v. is_query_context (view v)) _ _ c.all.result
    c.all.ensures.ran (YieldsList-from_slice c.args.values.now cc)
    (λ x b q k. search (rules, tests)) in
    values ∙ list_all_of_views is_query_context c.args.values.now
