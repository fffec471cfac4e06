-- The merge is one of the open ones.
use Rattle.std.proofs.Common.{◌≡◌, ◌∙◌, ap}
use Rattle.segment.specs.Views.{PlainParts}
use Rattle.index_core.specs.Histories.{Record}
use Rattle.index_core.specs.Records.{open_views, open_merges}
use Rattle.index_core.specs.MergeCalls.{merge_of, after_drop}
use Rattle.index_core.proofs.ClosingLemmas.{Closes, asks_rising, asks_holders, dropped}
use Rattle.index_core.proofs.machine.Core.drop_merge.Goals as goal

gens_are : (c : goal.After-into_vec) → c.into_vec.result.items ≡ c.args.parts.generations
gens_are c = c.into_vec.ensures.items ∙ ap (λ (p : PlainParts). p.generations) c.parts.view_is

pub drop_merge-requires-clause-rising : goal.drop_merge-requires-clause-rising
drop_merge-requires-clause-rising c =
    asks_rising c.self.invariant c.args.self.now c.args.caller c.args.parts c.self.view_is
    c.requires c.into_vec.result.items (gens_are c)

pub drop_merge-requires-clause-holders : goal.drop_merge-requires-clause-holders
drop_merge-requires-clause-holders c =
    asks_holders c.self.invariant c.args.self.now c.args.caller c.args.parts c.self.view_is
    c.requires c.into_vec.result.items (gens_are c)

left : (c : goal.After-drop_merge)
    → Closes c.args.self.now c.args.parts.number c.drop_merge.new.self
    (after_drop c.args.caller (merge_of c.args.caller c.args.parts) c.args.self.now)
left c =
    dropped c.self.invariant c.args.self.now c.args.caller c.args.parts c.self.view_is c.requires
    c.drop_merge.new.self c.parts.inside.merge c.into_vec.result.items
    (ap (λ (p : PlainParts). p.number) c.parts.view_is)
    (c.into_vec.ensures.items ∙ ap (λ (p : PlainParts). p.generations) c.parts.view_is)
    c.drop_merge.ensures

pub invariant_of-self : goal.invariant_of-self
invariant_of-self c = (left c).kept

pub returns-clause-ok : goal.returns-clause-ok
returns-clause-ok c = (left c).record_is

pub returns-clause-ended : goal.returns-clause-ended
returns-clause-ended c = ap (λ (r : Record). open_merges r) (left c).record_is ∙ (left c).ended

pub returns-clause-views : goal.returns-clause-views
returns-clause-views c = ap (λ (r : Record). open_views r) (left c).record_is ∙ (left c).views

pub returns-clause-legal : goal.returns-clause-legal
returns-clause-legal c = (left c).kept.legal
