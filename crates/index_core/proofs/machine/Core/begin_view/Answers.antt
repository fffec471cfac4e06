-- Each step of the store leaves it kept, and what is shared beforehand is what the view has.
use Rattle.std.proofs.Common.{◌≡◌, ℕ, ◌+◌, sym, ◌∙◌, ap, subst, arith, nat_lt, length, refl, map}
use Rattle.std.proofs.Common.{drop}
use Rattle.std.proofs.Common.{List, []}
use Rattle.std.proofs.Common.{◌∷◌, ◌++◌}
use Rattle.std.specs.Prelude.{All}
use Rattle.std.specs.List.Sorted.{IsStrictlyIncreasing}
use Rattle.sg_paths.specs.Operations.{PlainBatch}
use Rattle.index_holds.specs.Holders.{HasRoom}
use Rattle.segment.specs.Pieces.{PlainPiece}
use Rattle.index_core.specs.OpenViews.{view_of}
use Rattle.index_core.specs.Keeping.{least_applied, known_batches}
use Rattle.index_core.specs.Fields.{all_pieces, all_batches, Stored, IsKept, record_of, with_closed}
use Rattle.index_core.specs.Fields.{with_places, with_list_places}
use Rattle.index_core.specs.OwnLists.{PlainLists}
use Rattle.std.proofs.lemmas.List.Elements.{Contains-push}
use Rattle.index_core.specs.Histories.{Record, View, open_views}
use Rattle.index_core.specs.Calls.{after_freeze}
use Rattle.index_core.proofs.FewLemmas.{few_generations}
use Rattle.index_core.proofs.ViewLemmas.{open_views-after_freeze}
use Rattle.index_core.proofs.KeptLemmas.{with_room, with_all_room, new_generation}
use Rattle.index_core.proofs.ViewingLemmas.{freezes_all, Frozen, begins, Begins, may_hold}
use Rattle.index_core.proofs.machine.Core.begin_view.Goals as goal

pub invariant_of-self : goal.invariant_of-self
invariant_of-self c =
    rw c.reserve.ensures.same
    (with_room c.self.invariant c.self.inside.store.closed c.reserve.new.self.places
    c.reserve.ensures.more)

pub invariant_of-self-in_err-close : goal.invariant_of-self-in_err-close
invariant_of-self-in_err-close c =
    rw (c.close.ensures.same, c.reserve.ensures.same)
    (with_room c.self.invariant c.close.new.self.closed c.reserve.new.self.places
    c.reserve.ensures.more)

pub invariant_of-self-in_err-parts : goal.invariant_of-self-in_err-parts
invariant_of-self-in_err-parts c =
    rw (c.close.ensures.same, c.reserve.ensures.same)
    (with_room c.self.invariant c.close.new.self.closed c.reserve.new.self.places
    c.reserve.ensures.more)

pub invariant_of-self-in_default : goal.invariant_of-self-in_default
invariant_of-self-in_default c =
    subst IsKept
    (sym (c.view_lists.ensures.same
    ∙ ap (with_list_places c.view_lists.new.self.lists.view_places
    c.close.new.self.lists.merge_places)
    (c.close.ensures.same ∙ ap (with_closed c.close.new.self.closed) c.reserve.ensures.same)))
    (with_all_room c.self.invariant c.close.new.self.closed c.reserve.new.self.places
    c.view_lists.new.self.lists.view_places c.close.new.self.lists.merge_places
    c.reserve.ensures.more)

-- the store once all that is buffered is closed, and the list of the view has its place
closed_is : (c : goal.After-begin-arg-1)
    → c.view_lists.new.self
    ≡ with_closed c.close.new.self.closed
    (with_list_places c.view_lists.new.self.lists.view_places c.close.new.self.lists.merge_places
    (with_places c.reserve.new.self.places c.self.inside.store))
closed_is c =
    c.view_lists.ensures.same
    ∙ ap (with_list_places c.view_lists.new.self.lists.view_places
    c.close.new.self.lists.merge_places)
    (c.close.ensures.same ∙ ap (with_closed c.close.new.self.closed) c.reserve.ensures.same)

shut : (c : goal.After-begin-arg-1) → IsKept c.view_lists.new.self
shut c =
    subst IsKept (sym (closed_is c))
    (with_all_room c.self.invariant c.close.new.self.closed c.reserve.new.self.places
    c.view_lists.new.self.lists.view_places c.close.new.self.lists.merge_places
    c.reserve.ensures.more)

-- what it leaves of the numbers
record Same (c : goal.After-begin-arg-1) : Type 0 where
  history : length c.view_lists.new.self.history ≡ length c.reserve.new.self.history
  places : c.view_lists.new.self.places ≡ c.reserve.new.self.places
  opened : c.view_lists.new.self.open_count ≡ c.self.inside.store.open_count
  merges : c.view_lists.new.self.lists.merges_open ≡ c.self.inside.store.lists.merges_open

same : (c : goal.After-begin-arg-1) → Same c
same c = record {
  history =
      ap (λ (s : Stored). length s.history) (closed_is c)
      ∙ sym (ap (λ (s : Stored). length s.history) c.reserve.ensures.same);
  places = ap (λ (s : Stored). s.places) (closed_is c);
  opened = ap (λ (s : Stored). s.open_count) (closed_is c);
  merges = ap (λ (s : Stored). s.lists.merges_open) (closed_is c);
}

frozen : (c : goal.After-begin-arg-1)
    → Frozen c.view_lists.new.self c.freeze_all.new.self c.args.caller
frozen c =
    let e = same c in
    let count = c.reserved-places.ensures.count in
    rw c.freeze_all.ensures
    (freezes_all (shut c) c.args.caller c.view_lists.new.self.closed refl
    (ap (λ (s : Stored). s.closed) (closed_is c) ∙ c.in_ok-close.ensures.ok
    ∙ ap (λ (s : Stored). nat_lt 0 (length s.buffer)) c.reserve.ensures.same
    ∙ sym (ap (λ (s : Stored). nat_lt 0 (length s.buffer)) (closed_is c)))
    (omega (
      arith,
      e.history,
      e.places,
      e.opened,
      e.merges,
      count,
      c.in_ok-reserve.ensures.ok,
    )))

frozen_is : (c : goal.After-begin-arg-1)
    → record_of c.freeze_all.new.self ≡ after_freeze c.args.caller c.args.self.now
frozen_is c =
    (frozen c).left.record_is
    ∙ ap (after_freeze c.args.caller) (ap record_of (closed_is c) ∙ c.self.view_is)

-- the parts have the pieces and the batches that the store then has
pieces_are : (c : goal.After-begin-arg-1)
    → c.in_ok-parts.parts.pieces ≡ c.freeze_all.new.self.pieces
pieces_are c =
    c.in_ok-parts.ensures.pieces ∙ sym (ap all_pieces c.view_lists.ensures.same)
    ∙ sym (frozen c).pieces

batches_are : (c : goal.After-begin-arg-1)
    → all_batches c.close.new.self ≡ c.freeze_all.new.self.batches
batches_are c =
    sym (ap all_batches c.view_lists.ensures.same) ∙ sym (frozen c).batches

gens_are : (c : goal.After-begin-arg-1)
    → c.in_ok-parts.parts.generations
    ≡ map (λ piece. piece.generation) c.freeze_all.new.self.pieces
gens_are c =
    c.in_ok-parts.ensures.gens
    ∙ ap (map (λ (p : PlainPiece). p.generation))
    (sym c.in_ok-parts.ensures.pieces ∙ pieces_are c)

-- what the view asks of its generations
holds : (c : goal.After-begin-arg-1)
    → IsStrictlyIncreasing c.in-Ok.lists.event.items
    × All (HasRoom c.freeze_all.new.self.held) c.in-Ok.lists.event.items
holds c =
    may_hold (frozen c).left.kept c.in-Ok.lists.event.items
    (c.in-Ok.ensures.event ∙ gens_are c)

left : (c : goal.After-begin)
    → Begins c.freeze_all.new.self c.begin.new.self c.args.caller c.args.self.now
    c.in_ok-parts.parts
left c =
    let f = frozen c.before in
    let e = c.in_ok-parts.ensures in
    let parts = c.in_ok-parts.parts in
    let shut = c.close.new.self in
    let is = same c.before in
    let merges = ap (λ (ls : PlainLists). ls.merges_open) f.lists in
    let count = c.reserved-places.ensures.count in
    let opened = c.opened-opened.ensures in
    rw c.begin.ensures
    (begins f.left.kept c.args.caller c.args.self.now c.in-Ok.lists.event.items parts
    (frozen_is c.before) f.none
    (omega (arith, f.opened, is.opened, opened))
    (omega (
      arith,
      f.long,
      f.places,
      f.opened,
      merges,
      is.history,
      is.places,
      is.opened,
      is.merges,
      count,
      c.in_ok-reserve.ensures.ok,
    ))
    (c.in-Ok.ensures.event ∙ gens_are c.before)
    (e.number
    ∙ ap (λ (s : Stored). s.begun_count + 1) (sym c.view_lists.ensures.same)
    ∙ ap (λ (n : ℕ). n + 1) (sym f.begun))
    (e.upto
    ∙ ap (λ (s : Stored). s.frozen_count + length s.buffer) (sym c.view_lists.ensures.same)
    ∙ sym f.upto)
    (pieces_are c.before)
    (e.batches
    ∙ ap (λ (ps : List PlainPiece). drop (known_batches (least_applied parts.upto ps)
    (all_batches shut)) (all_batches shut)) (sym e.pieces ∙ pieces_are c.before)
    ∙ ap (λ (bs : List PlainBatch). drop (known_batches (least_applied parts.upto
    c.freeze_all.new.self.pieces) bs) bs) (batches_are c.before))
    (gens_are c.before))

pub invariant_of-self-2 : goal.invariant_of-self-2
invariant_of-self-2 c = (left c).kept

pub returns-clause-view : goal.returns-clause-view
returns-clause-view c = (left c).view

pub returns-clause-parts : goal.returns-clause-parts
returns-clause-parts c = (left c).parts_of

pub returns-clause-buildable : goal.returns-clause-buildable
returns-clause-buildable c = (left c).buildable

pub returns-clause-ok : goal.returns-clause-ok
returns-clause-ok c = (left c).after

pub returns-clause-opened : goal.returns-clause-opened
returns-clause-opened c =
    (left c).is_opened
    ∙ ap (λ (vs : List View). vs ++ view_of c.args.caller c.in_ok-parts.parts ∷ [])
    (ap (λ (r : Record). open_views r.history) (frozen_is c.before)
    ∙ open_views-after_freeze c.args.caller c.args.self.now)

pub returns-clause-begun : goal.returns-clause-begun
returns-clause-begun c =
    rw (left c).is_opened
    (Contains-push (open_views c.freeze_all.new.self.history)
    (view_of c.args.caller c.in_ok-parts.parts))

pub returns-clause-legal : goal.returns-clause-legal
returns-clause-legal c = (left c).kept.legal

pub returns-clause-others : goal.returns-clause-others
returns-clause-others c =
    (left c).others
    ∙ (ap (λ (r : Record). open_views r.history) (frozen_is c.before)
    ∙ open_views-after_freeze c.args.caller c.args.self.now)

pub close-requires-clause-few : goal.close-requires-clause-few
close-requires-clause-few c = rw c.reserve.ensures.same (few_generations c.self.invariant).1

pub share-requires-clause-few : goal.share-requires-clause-few
share-requires-clause-few c =
    rw (c.close.ensures.same, c.reserve.ensures.same) (few_generations c.self.invariant).0

pub freeze_all-requires-clause-few : goal.freeze_all-requires-clause-few
freeze_all-requires-clause-few c =
    let kept : IsKept c.view_lists.new.self =
    subst IsKept
    (sym (c.view_lists.ensures.same
    ∙ ap (with_list_places c.view_lists.new.self.lists.view_places
    c.close.new.self.lists.merge_places)
    (c.close.ensures.same ∙ ap (with_closed c.close.new.self.closed) c.reserve.ensures.same)))
    (with_all_room c.self.invariant c.close.new.self.closed c.reserve.new.self.places
    c.view_lists.new.self.lists.view_places c.close.new.self.lists.merge_places
    c.reserve.ensures.more) in
    (few_generations kept).0

pub freeze_all-requires-clause-new : goal.freeze_all-requires-clause-new
freeze_all-requires-clause-new c =
    let kept : IsKept c.view_lists.new.self =
    subst IsKept
    (sym (c.view_lists.ensures.same
    ∙ ap (with_list_places c.view_lists.new.self.lists.view_places
    c.close.new.self.lists.merge_places)
    (c.close.ensures.same ∙ ap (with_closed c.close.new.self.closed) c.reserve.ensures.same)))
    (with_all_room c.self.invariant c.close.new.self.closed c.reserve.new.self.places
    c.view_lists.new.self.lists.view_places c.close.new.self.lists.merge_places
    c.reserve.ensures.more) in
    new_generation kept.plain kept.fields kept.held

pub begin-requires-clause-rising : goal.begin-requires-clause-rising
begin-requires-clause-rising c = (holds c).0

pub begin-requires-clause-holders : goal.begin-requires-clause-holders
begin-requires-clause-holders c = (holds c).1
