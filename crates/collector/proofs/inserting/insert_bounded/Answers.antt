-- Of k rows the last goes.
use Rattle.std.proofs.Common.{arith}
use Rattle.collector.proofs.ListLemmas.{bounded-full}
use Rattle.collector.proofs.inserting.insert_bounded.Goals as goal

pub returns-then-at-k-clause-items : goal.returns-then-at-k-clause-items
returns-then-at-k-clause-items c =
    bounded-full c.args.hits.now.items c.insert_full.new.hits.items c.args.hit c.args.k c.args.at
    c.if-at-k.true (omega arith) c.insert_full.ensures.items
