-- The merge begins where all that its end takes is there.
use Rattle.std.proofs.Common.{◌≡◌, ◌+◌, ◌∙◌, ℕ, List, length, refl, sym, ap, subst, arith}
use Rattle.std.specs.Prelude.{All, Contains}
use Rattle.segment.specs.Views.{PlainParts}
use Rattle.index_holds.specs.Holders.{HasRoom}
use Rattle.index_core.specs.Histories.{Record, merge_begin}
use Rattle.index_core.specs.Records.{open_views, open_merges}
use Rattle.index_core.specs.Merges.{merge_plan}
use Rattle.index_core.specs.LegalHistories.{IsLegal}
use Rattle.index_core.specs.MergeCalls.{merge_of, AreMergeOf}
use Rattle.index_core.specs.Fields.{Stored, IsKept, record_of, with_list_places, merging}
use Rattle.index_core.specs.Fields.{AreSizesWithin}
use Rattle.index_core.proofs.ViewLemmas.{open_views-skip}
use Rattle.index_core.proofs.KeptLemmas.{with_room, with_all_room}
use Rattle.index_core.proofs.CommittingLemmas.{may_merge}
use Rattle.index_core.proofs.FewLemmas.{few_generations}
use Rattle.index_core.proofs.MergePartsLemmas.{BeginsMerge, begins_merge}
use Rattle.index_core.proofs.machine.Core.begin_planned.Goals as goal

roomy : (c : goal.After-items) → IsKept c.reserve.new.self
roomy c =
    rw c.reserve.ensures.same
    (with_room c.self.invariant c.self.inside.store.closed c.reserve.new.self.places
    c.reserve.ensures.more)

pub merge-requires-clause-holders : goal.merge-requires-clause-holders
merge-requires-clause-holders c =
    subst (All (HasRoom c.reserve.new.self.held))
    (sym (c.items.ensures ∙ ap (λ (p : PlainParts). p.generations) c.parts.view_is
    ∙ c.in_ok-parts.ensures.gens))
    (may_merge (roomy c) c.args.gens.items
    (ap (λ (r : Record). merge_plan r) (ap record_of c.reserve.ensures.same ∙ c.self.view_is)
    ∙ c.requires.plan))

pub merge-requires-clause-few : goal.merge-requires-clause-few
merge-requires-clause-few c = (few_generations (roomy c)).1

-- the store with its places
abbrev placed : (c : goal.In-Ok) → Stored
placed c =
    with_list_places c.reserve.new.self.lists.view_places c.merge.new.self.lists.merge_places
    c.reserve.new.self

again : (c : goal.In-Ok) → record_of c.reserve.new.self ≡ c.args.self.now
again c = ap record_of c.reserve.ensures.same ∙ c.self.view_is

begun : (c : goal.In-Ok)
    → BeginsMerge (placed c) c.args.caller c.args.gens.items c.in_ok-parts.parts
begun c =
    let e = c.in_ok-parts.ensures in
    let kept : IsKept c.reserve.new.self =
    rw c.reserve.ensures.same
    (with_room c.self.invariant c.self.inside.store.closed c.reserve.new.self.places
    c.reserve.ensures.more) in
    let same = ap (λ (s : Stored). length s.history) c.reserve.ensures.same in
    let opened = ap (λ (s : Stored). s.open_count) c.reserve.ensures.same in
    let merges = ap (λ (s : Stored). s.lists.merges_open) c.reserve.ensures.same in
    let count = c.reserved-places.ensures.count in
    begins_merge
    (with_all_room kept c.reserve.new.self.closed c.reserve.new.self.places
    c.reserve.new.self.lists.view_places c.merge.new.self.lists.merge_places (omega arith))
    c.args.caller c.args.gens.items c.in_ok-parts.parts
    (ap (λ (r : Record). merge_plan r) (again c) ∙ c.requires.plan)
    (subst AreSizesWithin (sym (again c)) c.requires.within)
    (omega (arith, same, opened, merges, count, c.in_ok-reserve.ensures.ok))
    e.number e.upto e.pieces e.batches e.gens

left : (c : goal.In-Ok)
    → c.merge.new.self ≡ merging c.args.caller c.args.gens.items (placed c)
left c =
    c.in-Ok.ensures.ok
    ∙ ap (λ (gens : List ℕ). merging c.args.caller gens (placed c))
    (c.items.ensures ∙ ap (λ (p : PlainParts). p.generations) c.parts.view_is
    ∙ c.in_ok-parts.ensures.gens)

pub invariant_of-self-2 : goal.invariant_of-self-2
invariant_of-self-2 c = subst IsKept (sym (left c)) (begun c).left.kept

pub returns-clause-parts : goal.returns-clause-parts
returns-clause-parts c =
    subst (λ (s : Stored). AreMergeOf (record_of s) c.in_ok-parts.parts) (sym (left c))
    (begun c).parts_of

pub returns-clause-mergeable : goal.returns-clause-mergeable
returns-clause-mergeable c = (begun c).mergeable

pub returns-clause-begun : goal.returns-clause-begun
returns-clause-begun c =
    subst (λ (s : Stored). Contains (open_merges (record_of s))
    (merge_of c.args.caller c.in_ok-parts.parts)) (sym (left c)) (begun c).begun

pub returns-clause-views : goal.returns-clause-views
returns-clause-views c =
    ap (λ (s : Stored). open_views (record_of s)) (left c)
    ∙ open_views-skip c.reserve.new.self.history
    (merge_begin c.args.caller (c.reserve.new.self.lists.merges_begun + 1) c.args.gens.items)
    refl refl
    ∙ ap (λ (r : Record). open_views r) (again c)

pub returns-clause-legal : goal.returns-clause-legal
returns-clause-legal c =
    subst (λ (s : Stored). IsLegal (record_of s)) (sym (left c)) (begun c).left.kept.legal
