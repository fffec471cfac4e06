-- The queue stays in order.
use Rattle.path_desk.specs.Entries.{queued}
use Rattle.path_desk.proofs.PutLemmas.{rises-inserted}
use Rattle.path_desk.proofs.queue.Queue.put_within.Goals as goal

pub invariant_of-self-2 : goal.invariant_of-self-2
invariant_of-self-2 c =
    rises-inserted c.self.inside.waiting.items c.as_slice.result.now c.insert.new.self.items
    (queued c.args.entry c.args.bytes.now) c.in_ok-held.held c.place_of-at.result
    c.as_slice.ensures.value c.in_ok-held.ensures c.in_ok-insert.ensures.items
    c.place_of-at.ensures.place c.self.invariant
