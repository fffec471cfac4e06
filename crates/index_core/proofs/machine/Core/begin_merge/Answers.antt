-- What the store plans is what the record does.
use Rattle.std.proofs.Common.{◌≡◌, ◌∙◌, None, sym, ap, subst}
use Rattle.std.specs.Prelude.{option_map}
use Rattle.index_core.specs.Histories.{Record}
use Rattle.index_core.specs.Merges.{merge_plan}
use Rattle.index_core.specs.LegalHistories.{IsLegal}
use Rattle.index_core.specs.MergeCalls.{next_merge_by, after_begin_of}
use Rattle.index_core.specs.Fields.{AreSizesWithin}
use Rattle.index_core.proofs.SizeLemmas.{plan_is, within_is}
use Rattle.index_core.proofs.machine.Core.begin_merge.Goals as goal

pub begin_planned-requires-clause-plan : goal.begin_planned-requires-clause-plan
begin_planned-requires-clause-plan c =
    ap (λ (r : Record). merge_plan r) (sym c.self.view_is) ∙ sym (plan_is c.self.invariant)
    ∙ sym c.in_ok-planned.ensures.plan ∙ ap (option_map (λ gens. gens.items)) c.in-Some.is

pub begin_planned-requires-clause-within : goal.begin_planned-requires-clause-within
begin_planned-requires-clause-within c =
    subst AreSizesWithin c.self.view_is
    (within_is c.self.invariant c.in_ok-planned.ensures.within)

-- nothing is planned
none : (c : goal.In-None) → None ≡ merge_plan c.args.self.now
none c =
    ap (option_map (λ gens. gens.items)) (sym c.in-None.is) ∙ c.in_ok-planned.ensures.plan
    ∙ plan_is c.self.invariant ∙ ap (λ (r : Record). merge_plan r) c.self.view_is

pub returns-in-None-clause-merge : goal.returns-in-None-clause-merge
returns-in-None-clause-merge c =
    ap (option_map (next_merge_by c.args.caller c.args.self.now)) (none c)

pub returns-in-None-clause-ok : goal.returns-in-None-clause-ok
returns-in-None-clause-ok c = ap (after_begin_of c.args.caller c.args.self.now) (none c)

pub returns-in-None-clause-legal : goal.returns-in-None-clause-legal
returns-in-None-clause-legal c = subst IsLegal c.self.view_is c.self.invariant.legal
