-- The store stays kept, and its pieces tell what the record does.
use Rattle.std.proofs.Common.{◌≡◌, ◌∙◌, length, sym, ap, arith}
use Rattle.index_core.specs.Histories.{Record}
use Rattle.index_core.specs.Records.{open_views}
use Rattle.index_core.specs.Generations.{documents_of}
use Rattle.index_core.specs.CurrentPieces.{is_unbuilt, after_built}
use Rattle.index_core.specs.Fields.{Stored, IsKept, record_of}
use Rattle.index_core.proofs.ViewLemmas.{open_views-after_built}
use Rattle.index_core.proofs.KeptLemmas.{with_room, Leaves}
use Rattle.index_core.proofs.ChangingLemmas.{unbuilt_tells, builds_if}
use Rattle.index_core.proofs.machine.Core.built.Goals as goal

pub invariant_of-self : goal.invariant_of-self
invariant_of-self c =
    rw c.reserve.ensures.same
    (with_room c.self.invariant c.self.inside.store.closed c.reserve.new.self.places
    c.reserve.ensures.more)

roomy : (c : goal.After-build-done) → IsKept c.reserve.new.self
roomy c =
    rw c.reserve.ensures.same
    (with_room c.self.invariant c.self.inside.store.closed c.reserve.new.self.places
    c.reserve.ensures.more)

-- the same record
again : (c : goal.After-build-done) → record_of c.reserve.new.self ≡ c.args.self.now
again c = ap record_of c.reserve.ensures.same ∙ c.self.view_is

left : (c : goal.After-build-done)
    → Leaves c.build-done.new.self (after_built c.args.caller c.args.generation (record_of
    c.reserve.new.self))
left c =
    let same = ap (λ (s : Stored). length s.history) c.reserve.ensures.same in
    let opened = ap (λ (s : Stored). s.open_count) c.reserve.ensures.same in
    let merges = ap (λ (s : Stored). s.lists.merges_open) c.reserve.ensures.same in
    let count = c.reserved-places.ensures.count in
    rw c.build-done.ensures.store
    (builds_if (roomy c) c.args.caller c.args.generation c.args.segment.value
    (λ is. c.requires (ap (λ (r : Record). is_unbuilt r c.args.generation) (sym (again c)) ∙ is)
    ∙ ap (λ (r : Record). documents_of r c.args.generation) (sym (again c)))
    (omega (arith, same, opened, merges, count, c.in_ok-reserve.ensures.ok)))

pub invariant_of-self-2 : goal.invariant_of-self-2
invariant_of-self-2 c = (left c).kept

pub returns-clause-answer : goal.returns-clause-answer
returns-clause-answer c =
    c.build-done.ensures.answer
    ∙ unbuilt_tells (record_of c.reserve.new.self) c.reserve.new.self.pieces c.args.generation
    (roomy c).pieces
    ∙ ap (λ (r : Record). is_unbuilt r c.args.generation) (again c)

pub returns-clause-ok : goal.returns-clause-ok
returns-clause-ok c =
    (left c).record_is ∙ ap (after_built c.args.caller c.args.generation) (again c)

pub returns-clause-views : goal.returns-clause-views
returns-clause-views c =
    ap (λ (r : Record). open_views r)
    ((left c).record_is ∙ ap (after_built c.args.caller c.args.generation) (again c))
    ∙ open_views-after_built c.args.caller c.args.generation c.args.self.now

pub returns-clause-legal : goal.returns-clause-legal
returns-clause-legal c = (left c).kept.legal
