-- One segment after another is searched.
use Rattle.std.proofs.Common.{◌∙◌, ◌-◌, List, length, map, drop, ap, sym, subst, refl, arith}
use Rattle.std.specs.Prelude.{All}
use Rattle.std.proofs.lemmas.List.Elements.{All-nil}
use Rattle.sg_base.specs.Ranking.{IsKept}
use Rattle.sg_base.specs.declared.hit.Hit.{Hit}
use Rattle.collector.specs.Hits.{rows_of}
use Rattle.sg_view.specs.Rows.{hit_key}
use Rattle.sg_view.specs.Searched.{IsHitIn, HaveSearched}
use Rattle.sg_view.specs.Viewing.{seen_segment}
use Rattle.sg_view.proofs.SearchedLemmas.{begun, more}
use Rattle.sg_view.proofs.StepLemmas.{steps_before, steps_whole}
use Rattle.sg_view.proofs.searching.search_all.Goals as goal

pub loop-left-init : goal.loop-left-init
loop-left-init g c =
    let segments = c.args.view.now.segments in
    let all = ap length c.segments-segments.ensures.value in
    record {
      within = omega (arith, all);
      searched = begun c.args.query.now c.args.top.now.k (length c.segments-segments.result.now)
          segments (rows_of (hit_key segments) c.args.top.now.hits) all
          (ap (rows_of (hit_key segments)) c.requires.empty);
      known = subst (λ (hits : List Hit). All (IsHitIn segments) hits) (sym c.requires.empty)
          (All-nil (IsHitIn segments));
      kept = subst (λ (hits : List Hit). IsKept (rows_of (hit_key segments) hits))
          (sym c.requires.empty) (record { ascending = tt; once = tt });
      k = refl;
      places = refl;
      list = c.requires.list;
      need = refl;
      ticks = omega arith;
    }

pub returns-in_err-cut-clause-ticks : goal.returns-in_err-cut-clause-ticks
returns-in_err-cut-clause-ticks g c =
    let segments = c.args.view.now.segments in
    let so_far = c.loop-left.invariant in
    steps_whole c.args.query.now segments (c.loop-left.left - 1) c.args.steps.now
    c.search_piece.new.steps
    (steps_before c.args.query.now segments c.loop-left.left c.args.steps.now c.loop-left.steps
    c.search_piece.new.steps c.loop-left-test.true so_far.within so_far.ticks
    c.search_piece.ensures.ticks)

pub loop-left-preserved : goal.loop-left-preserved
loop-left-preserved g c =
    let segments = c.args.view.now.segments in
    let so_far = c.loop-left.invariant in
    let one = c.search_piece.ensures in
    record {
      within = omega (arith, so_far.within);
      searched = more c.args.query.now segments c.loop-left.left c.search_piece.new.top.k
          (rows_of (hit_key segments) c.loop-left.top.hits)
          (rows_of (hit_key segments) c.search_piece.new.top.hits) c.loop-left.first
          c.in_ok-cut.cut c.first_cut-first.result c.loop-left-test.true so_far.within
          (subst (λ k. HaveSearched c.args.query.now
          (map seen_segment (drop c.loop-left.left segments)) k
          (rows_of (hit_key segments) c.loop-left.top.hits) c.loop-left.first) (sym one.k)
          so_far.searched)
          c.in_ok-cut.ensures.adds c.first_cut-first.ensures;
      known = one.known;
      kept = one.kept;
      k = one.k ∙ so_far.k;
      places = one.places ∙ so_far.places;
      list = one.list;
      need = one.need ∙ so_far.need;
      ticks = steps_before c.args.query.now segments c.loop-left.left c.args.steps.now
          c.loop-left.steps c.search_piece.new.steps c.loop-left-test.true so_far.within
          so_far.ticks one.ticks;
    }
