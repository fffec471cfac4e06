-- The starts are put in, and then nothing is reached yet.
use Rattle.std.proofs.Common.{◌∙◌, List, [], map, ap, sym, subst}
use Rattle.std.specs.Prelude.{nat_le}
use Rattle.sg_base.specs.declared.rank.Rank.{Rank}
use Rattle.fst_walk.specs.Starts.{most_steps}
use Rattle.collector.specs.Hits.{row_of}
use Rattle.best_first.specs.Followed.{BetweenPaths, starts_of}
use Rattle.best_first.specs.Steps.{most_bytes}
use Rattle.best_first.proofs.EndingLemmas.{begun}
use Rattle.best_first.proofs.SegmentLemmas.{roots_length}
use Rattle.best_first.proofs.SizingLemmas.{steps-sum}
use Rattle.best_first.proofs.searching.run.Goals as goal

pub reach_all-requires-clause-between : goal.reach_all-requires-clause-between
reach_all-requires-clause-between g c =
    let nodes = g.S.SegParts.nodes c.args.parts.now in
    let ds = g.S.SegParts.listed c.args.parts.now in
    let e = c.in_ok-starts.ensures in
    let row = row_of (g.S.Keys.key_of c.args.parts.now) in (
      [],
      subst (λ (rows : List Rank). BetweenPaths c.args.query.now nodes ds c.args.live.now []
          c.args.top.now.k c.load_starts.new.desk rows) (sym (ap (map row) c.requires.empty))
          (begun c.args.query.now nodes ds c.args.live.now e.stands e.query e.loaded.0 e.loaded.1
          c.args.desk.now c.begin.new.self c.load_starts.new.desk c.args.room c.args.top.now.k
          c.begin.ensures e.loaded.2).0,
    )

pub reach_all-requires-clause-room : goal.reach_all-requires-clause-room
reach_all-requires-clause-room g c =
    let e = c.in_ok-starts.ensures in
    (begun c.args.query.now (g.S.SegParts.nodes c.args.parts.now)
    (g.S.SegParts.listed c.args.parts.now) c.args.live.now e.stands e.query e.loaded.0 e.loaded.1
    c.args.desk.now c.begin.new.self c.load_starts.new.desk c.args.room c.args.top.now.k
    c.begin.ensures e.loaded.2).1 ∙ c.requires.room

pub reach_all-requires-clause-fresh : goal.reach_all-requires-clause-fresh
reach_all-requires-clause-fresh g c =
    let e = c.in_ok-starts.ensures in
    (begun c.args.query.now (g.S.SegParts.nodes c.args.parts.now)
    (g.S.SegParts.listed c.args.parts.now) c.args.live.now e.stands e.query e.loaded.0 e.loaded.1
    c.args.desk.now c.begin.new.self c.load_starts.new.desk c.args.room c.args.top.now.k
    c.begin.ensures e.loaded.2).2

pub reach_all-requires-clause-one : goal.reach_all-requires-clause-one
reach_all-requires-clause-one g c =
    let nodes = g.S.SegParts.nodes c.args.parts.now in
    let l = c.in_ok-starts.ensures.loaded in
    ap (λ n. nat_le n 1)
    (l.3 ∙ roots_length c.args.query.now nodes 0 (starts_of nodes c.args.query.now) l.0 l.1)

pub returns-clause-ticks : goal.returns-clause-ticks
returns-clause-ticks g c =
    let e = c.in_ok-starts.ensures in
    let maps = e.stands.1.maps in
    steps-sum c.args.steps.now c.load_starts.new.steps c.reach_all.new.steps _ _ _ _ _ _
    c.load_starts.ensures.ticks c.reach_all.ensures.ticks
    (ap (λ ts. most_steps ts c.args.query.now) maps)
    (begun c.args.query.now (g.S.SegParts.nodes c.args.parts.now)
    (g.S.SegParts.listed c.args.parts.now) c.args.live.now e.stands e.query e.loaded.0 e.loaded.1
    c.args.desk.now c.begin.new.self c.load_starts.new.desk c.args.room c.args.top.now.k
    c.begin.ensures e.loaded.2).1
    (ap most_bytes maps)

pub returns-in_err-cut-clause-ticks : goal.returns-in_err-cut-clause-ticks
returns-in_err-cut-clause-ticks g c =
    let e = c.in_ok-starts.ensures in
    let maps = e.stands.1.maps in
    steps-sum c.args.steps.now c.load_starts.new.steps c.reach_all.new.steps _ _ _ _ _ _
    c.load_starts.ensures.ticks c.reach_all.ensures.ticks
    (ap (λ ts. most_steps ts c.args.query.now) maps)
    (begun c.args.query.now (g.S.SegParts.nodes c.args.parts.now)
    (g.S.SegParts.listed c.args.parts.now) c.args.live.now e.stands e.query e.loaded.0 e.loaded.1
    c.args.desk.now c.begin.new.self c.load_starts.new.desk c.args.room c.args.top.now.k
    c.begin.ensures e.loaded.2).1
    (ap most_bytes maps)
