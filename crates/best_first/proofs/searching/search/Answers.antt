-- The queue has the size of the segment.
use Rattle.std.proofs.Common.{◌≤◌, ◌+◌, ◌*◌, ap, subst, arith}
use Rattle.sg_paths.specs.AllPaths.{all_paths}
use Rattle.fst_walk.specs.Starts.{most_steps}
use Rattle.best_first.specs.PathMatches.{path_tails}
use Rattle.best_first.specs.Steps.{most_bytes}
use Rattle.best_first.proofs.SizingLemmas.{live-length, size-of}
use Rattle.best_first.proofs.searching.search.Goals as goal

pub run-requires-clause-live : goal.run-requires-clause-live
run-requires-clause-live g c =
    let n = live-length (g.S.SegParts.listed c.args.parts.now) c.args.live.now c.requires.marks in
    let some = c.requires.live in
    omega (arith, n, some)

pub run-requires-clause-room : goal.run-requires-clause-room
run-requires-clause-room g c =
    size-of c.queue_size-room.result c.query.inside.k c.args.query.now.k c.most_paths.result
    c.documents.result c.count.result c.args.generation (g.S.SegParts.listed c.args.parts.now)
    c.args.live.now c.queue_size-room.ensures (ap (λ q. q.k) c.query.view_is) c.most_paths.ensures
    c.documents.ensures c.count.ensures c.requires.marks

pub returns-in-Ok-clause-ticks : goal.returns-in-Ok-clause-ticks
returns-in-Ok-clause-ticks g c =
    let tails = path_tails (all_paths (g.S.SegParts.listed c.args.parts.now)) in
    subst (λ room. c.run.new.steps ≤ c.args.steps.now + (most_steps tails c.args.query.now
    + room * (most_bytes tails + 1)))
    (size-of c.queue_size-room.result c.query.inside.k c.args.query.now.k c.most_paths.result
    c.documents.result c.count.result c.args.generation (g.S.SegParts.listed c.args.parts.now)
    c.args.live.now c.queue_size-room.ensures (ap (λ q. q.k) c.query.view_is) c.most_paths.ensures
    c.documents.ensures c.count.ensures c.requires.marks)
    c.run.ensures.ticks

pub returns-in-Err-clause-ticks : goal.returns-in-Err-clause-ticks
returns-in-Err-clause-ticks g c =
    let tails = path_tails (all_paths (g.S.SegParts.listed c.args.parts.now)) in
    subst (λ room. c.run.new.steps ≤ c.args.steps.now + (most_steps tails c.args.query.now
    + room * (most_bytes tails + 1)))
    (size-of c.queue_size-room.result c.query.inside.k c.args.query.now.k c.most_paths.result
    c.documents.result c.count.result c.args.generation (g.S.SegParts.listed c.args.parts.now)
    c.args.live.now c.queue_size-room.ensures (ap (λ q. q.k) c.query.view_is) c.most_paths.ensures
    c.documents.ensures c.count.ensures c.requires.marks)
    c.run.ensures.ticks
