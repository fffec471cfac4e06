-- One path more is reached.
use Rattle.std.proofs.Common.{◌∙◌, ◌+◌, ◌∷◌, ap, cond, take}
use Rattle.sg_base.specs.Rows.{put_row}
use Rattle.sg_paths.specs.AllPaths.{all_paths}
use Rattle.collector.specs.Hits.{rows_of}
use Rattle.best_first.specs.Followed.{setting, starts_of}
use Rattle.best_first.specs.Met.{IsMet}
use Rattle.best_first.specs.PathMatches.{all_matches, match_at}
use Rattle.best_first.proofs.BetweenLemmas.{between-after}
use Rattle.best_first.proofs.FollowLemmas.{ordinal, suggestion, ends, end_row}
use Rattle.best_first.proofs.SearchLemmas.{is-some}
use Rattle.best_first.proofs.reaching.follow_and_reach.Goals as goal

pub reach-requires-clause-followed : goal.reach-requires-clause-followed
reach-requires-clause-followed g c =
    is-some c.follow_to_end.new.desk _
    (c.in_ok-end.ensures.follows _ c.requires.follows.0 c.requires.follows.1).0.follows.path

pub reach-requires-clause-ordinal : goal.reach-requires-clause-ordinal
reach-requires-clause-ordinal g c =
    let f = c.in_ok-end.ensures.follows _ c.requires.follows.0 c.requires.follows.1 in
    ordinal _ _ _ _ _ _ f.0 f.1

pub reach-requires-clause-suggestion : goal.reach-requires-clause-suggestion
reach-requires-clause-suggestion g c =
    let f = c.in_ok-end.ensures.follows _ c.requires.follows.0 c.requires.follows.1 in
    suggestion _ _ _ _ _ _ f.0 f.1

pub returns-clause-between : goal.returns-clause-between
returns-clause-between g c =
    let nodes = g.S.SegParts.nodes c.args.parts.now in
    let ds = g.S.SegParts.listed c.args.parts.now in
    let key = g.S.Keys.key_of c.args.parts.now in
    let s = setting c.args.query.now nodes ds c.args.live.now in
    let r = c.requires.follows.0 in
    let f = c.in_ok-end.ensures.follows s r c.requires.follows.1 in
    let m = match_at s (all_paths ds) c.in_ok-end.end.ordinal in
    let rows = rows_of key c.args.top.now.hits in
    let row = end_row c.args.query.now ds (starts_of nodes c.args.query.now) c.args.live.now nodes r
    c.follow_to_end.new.desk c.in_ok-end.end f.0 f.1 c.args.piece key
    (λ h has. (g.met.S.SegParts.keyed c.args.parts.now h has).1) in (
      m ∷ r,
      between-after (all_matches s (all_paths ds)) (IsMet s nodes) r
          c.follow_to_end.new.desk c.reach.new.desk c.in_ok-end.end m c.args.top.now.k
          c.reach.new.top.k rows (rows_of key c.reach.new.top.hits) f.0.follows
          (ends s nodes ds r c.follow_to_end.new.desk c.in_ok-end.end f.0 f.1) c.reach.ensures.desk
          c.reach.ensures.k
          (c.reach.ensures.rows
          ∙ ap (λ z. cond m.live (take c.args.top.now.k (put_row z rows)) rows) row)
          c.requires.follows.2,
    )

pub returns-clause-reached : goal.returns-clause-reached
returns-clause-reached g c =
    ap (λ d. d.reached) c.reach.ensures.desk ∙ ap (λ n. n + 1) c.in_ok-end.ensures.fixed.0

pub returns-clause-room : goal.returns-clause-room
returns-clause-room g c = ap (λ d. d.room) c.reach.ensures.desk ∙ c.in_ok-end.ensures.fixed.1
