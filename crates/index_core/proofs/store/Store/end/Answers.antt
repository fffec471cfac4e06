-- What nothing holds any more is told.
use Rattle.std.proofs.Common.{◌∙◌, ◌++◌, ◌∷◌, [], List, ℕ, map, ap}
use Rattle.index_holds.specs.Holders.{given_up}
use Rattle.index_core.specs.Histories.{event_of, view_end}
use Rattle.index_core.specs.Fields.{ending}
use Rattle.index_core.proofs.StoreLemmas.{mapped_one}
use Rattle.index_core.proofs.MergeSlotLemmas.{ended_store}
use Rattle.index_core.proofs.store.Store.end.Goals as goal

pub returns-clause-store : goal.returns-clause-store
returns-clause-store c =
    let gens = c.args.gens.items in
    let held = c.self.inside.holds.entries in
    ended_store c.args.caller c.args.view gens _ _ _ _ _ _ _ _ _ _ _ _ _ _ _ _ _ _ _ _ _ _
    c.release-freed.ensures.entries
    (mapped_one _ _ _ c.push_reserved.ensures.items
    ∙ ap (λ (gs : List ℕ). map event_of c.self.inside.events.items
    ++ view_end c.args.caller c.args.view gs ∷ [])
    (c.told_in.ensures ∙ c.items.ensures ∙ c.release-freed.ensures.freed
    ∙ ap (given_up held) c.release-freed.ensures.entries))
    c.take_list-own.ensures.lists c.take_list-own.ensures.places c.push_reserved.ensures.capacity
    ∙ ap (ending c.args.caller c.args.view gens) c.self.view_is
