-- Each step of the store leaves it kept.
use Rattle.std.proofs.Common.{◌∙◌, ap, arith, length}
use Rattle.sg_paths.specs.Operations.{plain_op}
use Rattle.index_core.specs.Histories.{Record}
use Rattle.index_core.specs.Records.{open_views}
use Rattle.index_core.specs.Calls.{after_accept}
use Rattle.index_core.specs.Fields.{Stored, IsKept, record_of}
use Rattle.index_core.proofs.FewLemmas.{few_generations}
use Rattle.index_core.proofs.KeptLemmas.{with_room, Leaves, new_generation}
use Rattle.index_core.proofs.BufferLemmas.{accepts}
use Rattle.index_core.proofs.ViewLemmas.{open_views-after_accept}
use Rattle.index_core.proofs.machine.Core.accept.Goals as goal

pub invariant_of-self : goal.invariant_of-self
invariant_of-self c =
    rw c.make_room.ensures.same
    (with_room c.self.invariant c.make_room.new.self.closed c.make_room.new.self.places
    c.make_room.ensures.more)

pub invariant_of-self-in-Err : goal.invariant_of-self-in-Err
invariant_of-self-in-Err c =
    rw (c.in-Err.ensures.err, c.make_room.ensures.same)
    (with_room c.self.invariant c.make_room.new.self.closed c.make_room.new.self.places
    c.make_room.ensures.more)

left : (c : goal.In_default-accept)
    → Leaves c.accept.new.self
    (after_accept c.args.caller (plain_op c.args.op) (record_of c.self.inside.store))
left c =
    let same = ap (λ (s : Stored). length s.history) c.make_room.ensures.same in
    rw (c.in_default-accept.ensures.ok, c.make_room.ensures.same)
    (accepts (with_room c.self.invariant c.make_room.new.self.closed c.make_room.new.self.places
    c.make_room.ensures.more) c.args.caller (plain_op c.args.op)
    (omega (arith, c.accepted-count.ensures))
    (omega (arith, same, c.reserved-places.ensures.count, c.in-Ok.ensures.room)))

pub invariant_of-self-2 : goal.invariant_of-self-2
invariant_of-self-2 c = (left c).kept

pub returns-clause-ok : goal.returns-clause-ok
returns-clause-ok c =
    (left c).record_is ∙ ap (after_accept c.args.caller (plain_op c.args.op)) c.self.view_is

pub returns-clause-legal : goal.returns-clause-legal
returns-clause-legal c = (left c).kept.legal

pub returns-clause-views : goal.returns-clause-views
returns-clause-views c =
    ap (λ (r : Record). open_views r)
    ((left c).record_is ∙ ap (after_accept c.args.caller (plain_op c.args.op)) c.self.view_is)
    ∙ open_views-after_accept c.args.caller (plain_op c.args.op) c.args.self.now

roomy : (c : goal.After-accept-arg-1) → IsKept c.make_room.new.self
roomy c =
    rw c.make_room.ensures.same
    (with_room c.self.invariant c.make_room.new.self.closed c.make_room.new.self.places
    c.make_room.ensures.more)

pub accept-requires-clause-few : goal.accept-requires-clause-few
accept-requires-clause-few c = (few_generations (roomy c)).0

pub accept-requires-clause-few_merges : goal.accept-requires-clause-few_merges
accept-requires-clause-few_merges c = (few_generations (roomy c)).1

pub accept-requires-clause-new : goal.accept-requires-clause-new
accept-requires-clause-new c =
    new_generation (roomy c).plain (roomy c).fields (roomy c).held
