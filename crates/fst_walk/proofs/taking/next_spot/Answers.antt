-- Behind the group.
use Rattle.std.proofs.Common.{sym}
use Rattle.fst_code.specs.Bytes.{nodes_of}
use Rattle.fst_walk.specs.Walks.{InGroup}
use Rattle.fst_walk.proofs.WithinLemmas.{then_end, then_start, past_none}
use Rattle.fst_walk.proofs.OptionLemmas.{either}
use Rattle.fst_walk.proofs.taking.next_spot.Goals as goal

pub returns-in-None : goal.returns-in-None
returns-in-None g c =
    let t = nodes_of c.args.t.now in
    let q = c.args.query.now in
    let w = c.args.walk.now in
    let n = c.advance.new.walk in
    let group : InGroup t q w = c.requires.ready.group (sym c.if-not-is_within.ensures) in
    let p = past_none t q w n c.args.steps.now c.advance.new.steps group c.in-None.ensures in
    either c.take_next-in-None.result
    (then_end t q w n c.take_next-in-None.new.walk c.args.steps.now c.advance.new.steps
    c.take_next-in-None.new.steps p.2 p.3)
    (λ s. then_start t q w n c.take_next-in-None.new.walk c.args.steps.now c.advance.new.steps
    c.take_next-in-None.new.steps s p.2 p.3)
    c.take_next-in-None.ensures
