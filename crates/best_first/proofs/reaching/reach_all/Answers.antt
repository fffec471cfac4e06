-- The search keeps what holds between two paths, and ends where it is done or its queue is empty.
use Rattle.std.proofs.Common.{◌∙◌, ap, sym, subst}
use Rattle.std.specs.Prelude.{option_map}
use Rattle.sg_paths.specs.AllPaths.{all_paths}
use Rattle.path_desk.specs.Desks.{cut_at}
use Rattle.collector.specs.Hits.{row_of}
use Rattle.best_first.specs.Followed.{setting}
use Rattle.best_first.specs.Met.{IsMet}
use Rattle.best_first.specs.PathMatches.{all_matches}
use Rattle.best_first.specs.Segments.{Follows}
use Rattle.best_first.proofs.BetweenLemmas.{follows-first}
use Rattle.best_first.proofs.EndingLemmas.{when_done, when_empty}
use Rattle.best_first.proofs.SearchesLemmas.{searches}
use Rattle.best_first.proofs.reaching.reach_all.Goals as goal

pub follow_and_reach-requires-clause-follows : goal.follow_and_reach-requires-clause-follows
follow_and_reach-requires-clause-follows g c =
    let nodes = g.S.SegParts.nodes c.args.parts.now in
    let ds = g.S.SegParts.listed c.args.parts.now in
    let s = setting c.args.query.now nodes ds c.args.live.now in
    let start = c.requires.begun in
    let r = c.loop-desk.invariant.between.0 in
    let b = c.loop-desk.invariant.between.1 in
    let e = c.in-Some.ensures in (
      r,
      record {
        searches = searches c.args.query.now ds nodes c.args.live.now start.documents start.mapping
            start.is_query start.key;
        follows = subst (λ z. Follows (all_matches s (all_paths ds)) (IsMet s nodes) r z
            c.in-Some.entry) (sym e.3)
            (follows-first (all_matches s (all_paths ds)) (IsMet s nodes) r c.loop-desk.desk
            c.in-Some.entry e.0 e.1 b.searching b.idle e.2);
      },
      b.kept,
    )

pub returns-clause-search : goal.returns-clause-search
returns-clause-search g c =
    let inv = c.loop-desk.invariant in
    when_done c.args.query.now (g.S.SegParts.nodes c.args.parts.now)
    (g.S.SegParts.listed c.args.parts.now) c.args.live.now c.args.generation c.requires.begun
    c.requires.live inv.between.0 c.loop-desk.top.k c.loop-desk.desk
    (row_of (g.S.Keys.key_of c.args.parts.now)) c.loop-desk.top.hits inv.between.1
    c.args.one_start c.requires.one (inv.k ∙ c.requires.k) (inv.room ∙ c.requires.room)
    (sym c.is_done.ensures ∙ c.loop-desk-test.false)

pub returns-in_default-clause-search : goal.returns-in_default-clause-search
returns-in_default-clause-search g c =
    let inv = c.loop-desk.invariant in
    when_empty c.args.query.now (g.S.SegParts.nodes c.args.parts.now)
    (g.S.SegParts.listed c.args.parts.now) c.args.live.now c.args.generation c.requires.begun
    c.requires.live inv.between.0 c.loop-desk.top.k c.loop-desk.desk
    (row_of (g.S.Keys.key_of c.args.parts.now)) c.loop-desk.top.hits inv.between.1
    c.args.one_start c.requires.one (inv.k ∙ c.requires.k) (inv.room ∙ c.requires.room)
    c.in_default.ensures.0 (sym c.is_done.ensures ∙ c.loop-desk-test.true)
    c.in_ok-cut.cut
    (c.in_ok-cut.ensures.ok
    ∙ ap (λ z. option_map (cut_at c.args.generation z.room) z.dropped) c.in_default.ensures.1)
