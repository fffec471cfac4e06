-- Where one is tested, one is tested by its view.
use Rattle.std.proofs.Common.{rules, ◌∙◌, tests}
use Rattle.std.proofs.lemmas.Iterator.{YieldsList-from_slice}
use Rattle.std.proofs.lemmas.Iterator.Search.{any_from_yields_List}
use Rattle.serde_json.specs.View.{view}
use Rattle.wire_json.specs.Suggested.{has_wrong_contexts}
use Rattle.wire_json.proofs.MemberLemmas.{list_any_of_views}
use Rattle.wire_json.proofs.suggested.any_has_wrong_contexts.Goals as goal

pub returns : goal.returns
returns c =
    let values = any_from_yields_List (λ v. has_wrong_contexts (view v)) _ _ c.any.result
    c.any.ensures.ran (YieldsList-from_slice c.args.suggestions.now cc)
    (λ x b q k. search (rules, tests)) in
    values ∙ list_any_of_views has_wrong_contexts c.args.suggestions.now
