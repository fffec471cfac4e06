-- A context has no byte that ends one.
use Rattle.std.proofs.Common.{◌≡◌, true, subst}
use Rattle.sg_base.specs.Contexts.{is_context}
use Rattle.sg_context.specs.Boosts.{PlainQueryContext}
use Rattle.fst_walk.proofs.AskingLemmas.{context_clean}
use Rattle.fst_walk.proofs.asking.context_bytes.Goals as goal

pub returns-clause-clean : goal.returns-clause-clean
returns-clause-clean c =
    context_clean c.args.asked.now.context
    (subst (λ (q : PlainQueryContext). is_context q.context ≡ true) c.asked.view_is
    c.as_str.ensures.context)
