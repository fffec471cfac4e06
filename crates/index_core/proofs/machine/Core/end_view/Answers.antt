-- The view is one of the open ones, so one fewer is open; what nothing holds any more is released.
use Rattle.std.proofs.Common.{◌≡◌, List, [], ℕ, sym, ◌∙◌, ap, subst, refl}
use Rattle.std.specs.Prelude.{All, Contains}
use Rattle.std.specs.List.Sorted.{IsStrictlyIncreasing}
use Rattle.segment.specs.Views.{PlainParts}
use Rattle.index_holds.specs.Holders.{HasHolder, given_up}
use Rattle.index_core.specs.Histories.{Record, open_views}
use Rattle.index_core.specs.LegalHistories.{IsOpenView}
use Rattle.index_core.specs.OpenViews.{view_of, without}
use Rattle.index_core.specs.Calls.{after_end, released_by_end}
use Rattle.index_core.specs.Fields.{Stored, record_of, ending}
use Rattle.index_core.proofs.ViewLemmas.{open_views-end}
use Rattle.index_core.proofs.KeptLemmas.{Leaves}
use Rattle.index_core.proofs.GivenUpLemmas.{few_released}
use Rattle.index_core.proofs.EndingLemmas.{ended, ends, view_has_list}
use Rattle.index_core.proofs.machine.Core.end_view.Goals as goal

-- the view of the parts is open
opens : (r now : Record) (caller : ℕ) (parts : PlainParts) → r ≡ now
    → Contains (open_views now.history) (view_of caller parts)
    → IsOpenView r caller parts.number (view_of caller parts)
opens r now caller parts same there = record {
  is_open = subst (λ (x : Record). Contains (open_views x.history) (view_of caller parts))
      (sym same) there;
  by_caller = refl;
  number = refl;
}

pub end-requires-clause-rising : goal.end-requires-clause-rising
end-requires-clause-rising c =
    subst IsStrictlyIncreasing
    (sym (c.into_vec.ensures.items ∙ ap (λ (p : PlainParts). p.generations) c.parts.view_is))
    (ended c.self.invariant c.args.caller c.args.parts.number
    (view_of c.args.caller c.args.parts) []
    (opens _ _ c.args.caller c.args.parts c.self.view_is c.requires)).rising

pub end-requires-clause-holders : goal.end-requires-clause-holders
end-requires-clause-holders c =
    subst (All (HasHolder c.self.inside.store.held))
    (sym (c.into_vec.ensures.items ∙ ap (λ (p : PlainParts). p.generations) c.parts.view_is))
    (ended c.self.invariant c.args.caller c.args.parts.number
    (view_of c.args.caller c.args.parts) []
    (opens _ _ c.args.caller c.args.parts c.self.view_is c.requires)).holders

gens_are : (c : goal.After-into_vec)
    → c.into_vec.result.items ≡ c.args.parts.generations
gens_are c = c.into_vec.ensures.items ∙ ap (λ (p : PlainParts). p.generations) c.parts.view_is

pub end-requires-clause-own : goal.end-requires-clause-own
end-requires-clause-own c =
    rw (ap (λ (p : PlainParts). p.number) c.parts.view_is, gens_are c)
    (view_has_list c.self.invariant c.args.caller c.args.parts.number
    (view_of c.args.caller c.args.parts) (opens _ _ c.args.caller c.args.parts c.self.view_is
    c.requires))

pub end-requires-clause-few : goal.end-requires-clause-few
end-requires-clause-few c =
    let kept = c.self.invariant in
    let is = ended kept c.args.caller c.args.parts.number (view_of c.args.caller c.args.parts) []
    (opens _ _ c.args.caller c.args.parts c.self.view_is c.requires) in
    rw (gens_are c)
    (few_released (record_of c.self.inside.store) c.args.parts.generations
    c.self.inside.store.held kept.held.counts kept.held.rise is.rising is.holders)

is_open : (c : goal.After-end)
    → IsOpenView (record_of c.self.inside.store) c.args.caller c.args.parts.number
    (view_of c.args.caller c.args.parts)
is_open c = opens _ _ c.args.caller c.args.parts c.self.view_is c.requires

store_is : (c : goal.After-end)
    → c.end.new.self
    ≡ ending c.args.caller c.args.parts.number c.args.parts.generations c.self.inside.store
store_is c =
    c.end.ensures.store
    ∙ ap (λ (n : ℕ). ending c.args.caller n c.into_vec.result.items c.self.inside.store)
    (ap (λ (p : PlainParts). p.number) c.parts.view_is)
    ∙ ap (λ (gs : List ℕ). ending c.args.caller c.args.parts.number gs c.self.inside.store)
    (c.into_vec.ensures.items ∙ ap (λ (p : PlainParts). p.generations) c.parts.view_is)

left : (c : goal.After-end)
    → Leaves c.end.new.self
    (after_end c.args.caller c.args.parts.number (record_of c.self.inside.store))
left c =
    rw (store_is c)
    (ends c.self.invariant c.args.caller c.args.parts.number (view_of c.args.caller c.args.parts)
    (is_open c))

pub invariant_of-self : goal.invariant_of-self
invariant_of-self c = (left c).kept

pub returns-clause-freed : goal.returns-clause-freed
returns-clause-freed c =
    c.end.ensures.freed
    ∙ ap (λ (s : Stored). given_up c.self.inside.store.held s.held) (store_is c)
    ∙ (ended c.self.invariant c.args.caller c.args.parts.number
    (view_of c.args.caller c.args.parts) [] (is_open c)).freed
    ∙ ap (released_by_end c.args.caller c.args.parts.number) c.self.view_is

pub returns-clause-ok : goal.returns-clause-ok
returns-clause-ok c =
    (left c).record_is ∙ ap (after_end c.args.caller c.args.parts.number) c.self.view_is

pub returns-clause-ended : goal.returns-clause-ended
returns-clause-ended c =
    ap (λ (r : Record). open_views r.history) (left c).record_is
    ∙ open_views-end c.self.inside.store.history c.args.caller c.args.parts.number _
    ∙ ap (λ (r : Record). without c.args.parts.number (open_views r.history)) c.self.view_is

pub returns-clause-legal : goal.returns-clause-legal
returns-clause-legal c = (left c).kept.legal
