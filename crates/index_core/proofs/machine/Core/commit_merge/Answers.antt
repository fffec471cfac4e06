-- The merge is one of the open ones, and what it brings is what it keeps.
use Rattle.std.proofs.Common.{◌≡◌, ◌∙◌, sym, ap}
use Rattle.std.specs.Prelude.{option_map}
use Rattle.segment.specs.Views.{PlainParts}
use Rattle.index_core.specs.Histories.{Record}
use Rattle.index_core.specs.Records.{open_views, open_merges}
use Rattle.index_core.specs.MergeCalls.{merge_of, after_commit}
use Rattle.index_core.proofs.FewLemmas.{few_generations}
use Rattle.index_core.proofs.ClosingLemmas.{Closes, asks_rising, asks_list, asks_current, asks_few}
use Rattle.index_core.proofs.ClosingLemmas.{asks_new, retired, retired_freed, came}
use Rattle.index_core.proofs.ClosingLemmas.{came_freed}
use Rattle.index_core.proofs.machine.Core.commit_merge.Goals as goal

-- ---- with a segment

gens_are : (c : goal.After-into_vec) → c.into_vec.result.items ≡ c.args.parts.generations
gens_are c = c.into_vec.ensures.items ∙ ap (λ (p : PlainParts). p.generations) c.parts.view_is

pub bring-requires-clause-own : goal.bring-requires-clause-own
bring-requires-clause-own c =
    asks_list c.self.invariant c.args.self.now c.args.caller c.args.parts c.self.view_is
    c.requires.open c.parts.inside.merge c.into_vec.result.items
    (ap (λ (p : PlainParts). p.number) c.parts.view_is) (gens_are c)

pub bring-requires-clause-few : goal.bring-requires-clause-few
bring-requires-clause-few c = (few_generations c.self.invariant).0

pub bring-requires-clause-few_freed : goal.bring-requires-clause-few_freed
bring-requires-clause-few_freed c =
    asks_few c.self.invariant c.args.self.now c.args.caller c.args.parts c.self.view_is
    c.requires.open c.into_vec.result.items (gens_are c)

pub bring-requires-clause-rising : goal.bring-requires-clause-rising
bring-requires-clause-rising c =
    asks_rising c.self.invariant c.args.self.now c.args.caller c.args.parts c.self.view_is
    c.requires.open c.into_vec.result.items (gens_are c)

pub bring-requires-clause-holders : goal.bring-requires-clause-holders
bring-requires-clause-holders c =
    asks_current c.self.invariant c.args.self.now c.args.caller c.args.parts c.self.view_is
    c.requires.open c.into_vec.result.items (gens_are c)

pub bring-requires-clause-new : goal.bring-requires-clause-new
bring-requires-clause-new c =
    asks_new c.self.invariant c.args.self.now c.args.caller c.args.parts c.self.view_is
    c.requires.open c.into_vec.result.items (gens_are c)

brought : (c : goal.After-bring)
    → Closes c.args.self.now c.args.parts.number c.bring.new.self
    (after_commit c.args.caller (merge_of c.args.caller c.args.parts) c.args.self.now)
brought c =
    came c.self.invariant c.args.self.now c.args.caller c.args.parts c.self.view_is
    c.requires.open c.in-Some.segment.value
    (ap (option_map (λ s. s.value)) (sym c.in-Some.is) ∙ c.requires.segment) c.bring.new.self
    c.parts.inside.merge c.parts.inside.upto c.into_vec.result.items
    (ap (λ (p : PlainParts). p.number) c.parts.view_is)
    (ap (λ (p : PlainParts). p.upto) c.parts.view_is)
    (c.into_vec.ensures.items ∙ ap (λ (p : PlainParts). p.generations) c.parts.view_is)
    c.bring.ensures.store

pub invariant_of-self : goal.invariant_of-self
invariant_of-self c = (brought c).kept

pub returns-in-Some-clause-freed : goal.returns-in-Some-clause-freed
returns-in-Some-clause-freed c =
    c.bring.ensures.freed
    ∙ came_freed c.self.invariant c.args.self.now c.args.caller c.args.parts c.self.view_is
    c.requires.open c.in-Some.segment.value
    (ap (option_map (λ s. s.value)) (sym c.in-Some.is) ∙ c.requires.segment)
    c.into_vec.result.items
    (c.into_vec.ensures.items ∙ ap (λ (p : PlainParts). p.generations) c.parts.view_is)

pub returns-in-Some-clause-ok : goal.returns-in-Some-clause-ok
returns-in-Some-clause-ok c = (brought c).record_is

pub returns-in-Some-clause-ended : goal.returns-in-Some-clause-ended
returns-in-Some-clause-ended c =
    ap (λ (r : Record). open_merges r) (brought c).record_is ∙ (brought c).ended

pub returns-in-Some-clause-views : goal.returns-in-Some-clause-views
returns-in-Some-clause-views c =
    ap (λ (r : Record). open_views r) (brought c).record_is ∙ (brought c).views

pub returns-in-Some-clause-legal : goal.returns-in-Some-clause-legal
returns-in-Some-clause-legal c = (brought c).kept.legal

-- ---- with none

kept_gens : (c : goal.After-into_vec-in-None)
    → c.into_vec-in-None.result.items ≡ c.args.parts.generations
kept_gens c =
    c.into_vec-in-None.ensures.items ∙ ap (λ (p : PlainParts). p.generations) c.parts.view_is

pub retire-requires-clause-own : goal.retire-requires-clause-own
retire-requires-clause-own c =
    asks_list c.self.invariant c.args.self.now c.args.caller c.args.parts c.self.view_is
    c.requires.open c.parts.inside.merge c.into_vec-in-None.result.items
    (ap (λ (p : PlainParts). p.number) c.parts.view_is) (kept_gens c)

pub retire-requires-clause-few_freed : goal.retire-requires-clause-few_freed
retire-requires-clause-few_freed c =
    asks_few c.self.invariant c.args.self.now c.args.caller c.args.parts c.self.view_is
    c.requires.open c.into_vec-in-None.result.items (kept_gens c)

pub retire-requires-clause-rising : goal.retire-requires-clause-rising
retire-requires-clause-rising c =
    asks_rising c.self.invariant c.args.self.now c.args.caller c.args.parts c.self.view_is
    c.requires.open c.into_vec-in-None.result.items (kept_gens c)

pub retire-requires-clause-holders : goal.retire-requires-clause-holders
retire-requires-clause-holders c =
    asks_current c.self.invariant c.args.self.now c.args.caller c.args.parts c.self.view_is
    c.requires.open c.into_vec-in-None.result.items (kept_gens c)

left : (c : goal.After-retire)
    → Closes c.args.self.now c.args.parts.number c.retire.new.self
    (after_commit c.args.caller (merge_of c.args.caller c.args.parts) c.args.self.now)
left c =
    retired c.self.invariant c.args.self.now c.args.caller c.args.parts c.self.view_is
    c.requires.open (ap (option_map (λ s. s.value)) (sym c.in-None.is) ∙ c.requires.segment)
    c.retire.new.self c.parts.inside.merge c.into_vec-in-None.result.items
    (ap (λ (p : PlainParts). p.number) c.parts.view_is)
    (c.into_vec-in-None.ensures.items ∙ ap (λ (p : PlainParts). p.generations) c.parts.view_is)
    c.retire.ensures.store

pub invariant_of-self-in-None : goal.invariant_of-self-in-None
invariant_of-self-in-None c = (left c).kept

pub returns-in-None-clause-freed : goal.returns-in-None-clause-freed
returns-in-None-clause-freed c =
    c.retire.ensures.freed
    ∙ retired_freed c.self.invariant c.args.self.now c.args.caller c.args.parts c.self.view_is
    c.requires.open (ap (option_map (λ s. s.value)) (sym c.in-None.is) ∙ c.requires.segment)
    c.into_vec-in-None.result.items
    (c.into_vec-in-None.ensures.items ∙ ap (λ (p : PlainParts). p.generations) c.parts.view_is)

pub returns-in-None-clause-ok : goal.returns-in-None-clause-ok
returns-in-None-clause-ok c = (left c).record_is

pub returns-in-None-clause-ended : goal.returns-in-None-clause-ended
returns-in-None-clause-ended c =
    ap (λ (r : Record). open_merges r) (left c).record_is ∙ (left c).ended

pub returns-in-None-clause-views : goal.returns-in-None-clause-views
returns-in-None-clause-views c =
    ap (λ (r : Record). open_views r) (left c).record_is ∙ (left c).views

pub returns-in-None-clause-legal : goal.returns-in-None-clause-legal
returns-in-None-clause-legal c = (left c).kept.legal
