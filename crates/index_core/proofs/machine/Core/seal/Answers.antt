-- Each step of the store leaves it kept.
use Rattle.std.proofs.Common.{◌<◌, ◌∙◌, ap, arith, length}
use Rattle.index_core.specs.Histories.{Record}
use Rattle.index_core.specs.Records.{open_views}
use Rattle.index_core.specs.Calls.{after_freeze}
use Rattle.index_core.specs.Fields.{Stored, IsKept, record_of}
use Rattle.index_core.proofs.FewLemmas.{few_generations}
use Rattle.index_core.proofs.KeptLemmas.{with_room, Leaves, new_generation}
use Rattle.index_core.proofs.BufferLemmas.{freezes}
use Rattle.index_core.proofs.ViewLemmas.{open_views-after_freeze}
use Rattle.index_core.proofs.machine.Core.seal.Goals as goal

pub invariant_of-self : goal.invariant_of-self
invariant_of-self c =
    rw c.reserve.ensures.same
    (with_room c.self.invariant c.self.inside.store.closed c.reserve.new.self.places
    c.reserve.ensures.more)

pub invariant_of-self-in_err-close : goal.invariant_of-self-in_err-close
invariant_of-self-in_err-close c =
    rw (c.close.ensures.same, c.reserve.ensures.same)
    (with_room c.self.invariant c.close.new.self.closed c.reserve.new.self.places
    c.reserve.ensures.more)

pub close-requires-clause-few : goal.close-requires-clause-few
close-requires-clause-few c = rw c.reserve.ensures.same (few_generations c.self.invariant).1

left : (c : goal.After-drawn)
    → Leaves c.freeze.new.self (after_freeze c.args.caller (record_of c.self.inside.store))
left c =
    let reserved = c.reserved-places.ensures.count in
    let frozen = c.frozen.ensures in
    let same = ap (λ (s : Stored). length s.history) c.reserve.ensures.same in
    let count = c.accepted.ensures in
    let some : 0 < length c.self.inside.store.buffer = omega (arith, count) in
    rw (c.freeze.ensures, c.close.ensures.same, c.reserve.ensures.same)
    (freezes (with_room c.self.invariant c.close.new.self.closed c.reserve.new.self.places
    c.reserve.ensures.more) c.args.caller some
    (omega (arith, same, reserved, c.in_ok-reserve.ensures.ok)))

pub invariant_of-self-2 : goal.invariant_of-self-2
invariant_of-self-2 c = (left c).kept

pub returns-clause-legal : goal.returns-clause-legal
returns-clause-legal c = (left c).kept.legal

pub returns-clause-views : goal.returns-clause-views
returns-clause-views c =
    ap (λ (r : Record). open_views r)
    ((left c).record_is ∙ ap (after_freeze c.args.caller) c.self.view_is)
    ∙ open_views-after_freeze c.args.caller c.args.self.now

roomy : (c : goal.After-freeze-arg-1) → IsKept c.close.new.self
roomy c =
    rw (c.close.ensures.same, c.reserve.ensures.same)
    (with_room c.self.invariant c.close.new.self.closed c.reserve.new.self.places
    c.reserve.ensures.more)

pub freeze-requires-clause-few : goal.freeze-requires-clause-few
freeze-requires-clause-few c = (few_generations (roomy c)).0

pub freeze-requires-clause-new : goal.freeze-requires-clause-new
freeze-requires-clause-new c =
    new_generation (roomy c).plain (roomy c).fields (roomy c).held
