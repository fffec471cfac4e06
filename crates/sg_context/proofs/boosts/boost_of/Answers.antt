-- Something is asked for, so the boosts that count are those that match.
use Rattle.std.proofs.Common.{◌≢◌, []}
use Rattle.sg_context.proofs.BoostLemmas.{not_empty, greatest_counts, none_exactly}
use Rattle.sg_context.proofs.boosts.boost_of.Goals as goal

pub returns-clause-greatest : goal.returns-clause-greatest
returns-clause-greatest c =
    let some : c.args.asked.now ≢ [] = not_empty c.args.asked.now (cc) in
    rw c.greatest_matching_boost.ensures.value
    (greatest_counts c.args.asked.now c.args.context.now some)

pub returns-clause-none : goal.returns-clause-none
returns-clause-none c =
    let some : c.args.asked.now ≢ [] = not_empty c.args.asked.now (cc) in
    rw c.greatest_matching_boost.ensures.value
    (none_exactly c.args.asked.now c.args.context.now some)
