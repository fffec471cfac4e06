-- Where one is tested, one is tested by its view.
use Rattle.std.proofs.Common.{rules, ◌∙◌, tests}
use Rattle.std.proofs.lemmas.Iterator.{YieldsList-from_slice}
use Rattle.std.proofs.lemmas.Iterator.Search.{any_from_yields_List}
use Rattle.serde_json.specs.View.{view}
use Rattle.wire_json.specs.Asked.{asks_for_reserved_context}
use Rattle.wire_json.proofs.MemberLemmas.{list_any_of_views}
use Rattle.wire_json.proofs.asked.any_asks_for_reserved_context.Goals as goal

pub returns : goal.returns
returns c =
    let values = any_from_yields_List (λ v. asks_for_reserved_context (view v)) _ _ c.any.result
    c.any.ensures.ran (YieldsList-from_slice c.args.values.now cc)
    (λ x b q k. search (rules, tests)) in
    values ∙ list_any_of_views asks_for_reserved_context c.args.values.now
