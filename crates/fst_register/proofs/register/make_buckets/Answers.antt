-- More buckets than nodes.
use Rattle.std.proofs.Common.{arith}
use Rattle.fst_register.proofs.register.make_buckets.Goals as goal

pub returns-clause-ok : goal.returns-clause-ok
returns-clause-ok c =
    let more = c.more_buckets-buckets.ensures.more in
    omega (arith, c.in_ok-heads.ensures.buckets, c.requires.register.room, more)

pub returns-clause-register : goal.returns-clause-register
returns-clause-register c =
    let r = c.requires.register in
    let e = c.in_ok-heads.ensures.buckets in
    record {
      once = r.once;
      cells = omega (arith, c.make_chains.auto.chain, r.cells);
      few = r.few;
      buckets = omega (arith, e, c.more_buckets-buckets.ensures.few);
      room = omega (arith, e, r.room, c.more_buckets-buckets.ensures.more);
      chained = rw e c.in_ok-heads.ensures.ok;
    }
