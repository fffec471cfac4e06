-- The first list under the number is taken out at its place.
use Rattle.std.proofs.Common.{◌∙◌, sym, ap, arith}
use Rattle.std.specs.List.{position_from}
use Rattle.index_core.specs.OwnLists.{PlainOwnList}
use Rattle.index_core.proofs.OwnPlaceLemmas.{is_under, place_within, taken, none_under}
use Rattle.index_core.proofs.own_list.take_list.Goals as goal

pub remove-requires : goal.remove-requires
remove-requires c =
    let at = ap (position_from (is_under c.args.number) 0) (sym c.as_slice.ensures.value)
    ∙ sym c.place_of.ensures ∙ c.in-Some.is in
    let within = place_within c.args.number 0 c.in-Some.at c.args.lists.now.items at in
    omega (arith, within)

pub returns-in-Some-clause-list : goal.returns-in-Some-clause-list
returns-in-Some-clause-list c =
    let at = ap (position_from (is_under c.args.number) 0) (sym c.as_slice.ensures.value)
    ∙ sym c.place_of.ensures ∙ c.in-Some.is in
    ap (λ (l : PlainOwnList). l.generations) c.gens.view_is
    ∙ (taken c.args.number c.in-Some.at c.args.lists.now.items c.remove.result at
    c.remove.ensures.value).0

pub returns-in-Some-clause-lists : goal.returns-in-Some-clause-lists
returns-in-Some-clause-lists c =
    let at = ap (position_from (is_under c.args.number) 0) (sym c.as_slice.ensures.value)
    ∙ sym c.place_of.ensures ∙ c.in-Some.is in
    c.remove.ensures.by_index.2
    ∙ (taken c.args.number c.in-Some.at c.args.lists.now.items c.remove.result at
    c.remove.ensures.value).1

pub returns-in-None-clause-list : goal.returns-in-None-clause-list
returns-in-None-clause-list c =
    c.new.ensures.items
    ∙ sym (none_under c.args.number 0 c.args.lists.now.items
    (ap (position_from (is_under c.args.number) 0) (sym c.as_slice.ensures.value)
    ∙ sym c.place_of.ensures ∙ c.in-None.is)).0

pub returns-in-None-clause-lists : goal.returns-in-None-clause-lists
returns-in-None-clause-lists c =
    sym (none_under c.args.number 0 c.args.lists.now.items
    (ap (position_from (is_under c.args.number) 0) (sym c.as_slice.ensures.value)
    ∙ sym c.place_of.ensures ∙ c.in-None.is)).1
