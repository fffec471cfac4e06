-- Without a live document nothing is done; else the segment is searched.
use Rattle.std.proofs.Common.{◌∙◌, inr, [], get_or, ap, sym, refl}
use Rattle.seg_live.specs.LiveDocs.{live_count}
use Rattle.sg_view.specs.Rows.{no_segment}
use Rattle.sg_view.specs.Searched.{segment_at}
use Rattle.sg_view.specs.Viewing.{LiveSegment}
use Rattle.sg_view.proofs.StepLemmas.{none_live, live_by, steps_by}
use Rattle.sg_view.proofs.searching.search_piece.Goals as goal

pub returns-then-count-eq0-clause-adds : goal.returns-then-count-eq0-clause-adds
returns-then-count-eq0-clause-adds g c =
    let s = get_or c.args.view.now.segments c.args.piece no_segment in
    let same = c.viewed.view_is ∙ c.viewed-viewed.ensures.value in (
      [],
      inr (
        none_live s c.viewed-viewed.ensures.counted
            (ap (λ (z : LiveSegment). live_count z.live_docs) (sym same)
            ∙ ap live_count (sym c.deref.ensures) ∙ sym c.count.ensures ∙ c.if-count-eq0.true),
        refl,
        refl,
      ),
      refl,
    )

pub search_live-requires-clause-live : goal.search_live-requires-clause-live
search_live-requires-clause-live g c =
    live_by (get_or c.args.view.now.segments c.args.piece no_segment) c.deref.result.now
    c.count.result
    (c.deref.ensures
    ∙ ap (λ (z : LiveSegment). z.live_docs) (c.viewed.view_is ∙ c.viewed-viewed.ensures.value))
    c.viewed-viewed.ensures.counted c.count.ensures c.if-count-eq0.false

pub returns-in_err-cut-clause-ticks : goal.returns-in_err-cut-clause-ticks
returns-in_err-cut-clause-ticks g c =
    steps_by c.args.query.now (segment_at c.args.view.now.segments c.args.piece) c.args.steps.now
    c.search_live.new.steps
    (live_by (get_or c.args.view.now.segments c.args.piece no_segment) c.deref.result.now
    c.count.result
    (c.deref.ensures
    ∙ ap (λ (z : LiveSegment). z.live_docs) (c.viewed.view_is ∙ c.viewed-viewed.ensures.value))
    c.viewed-viewed.ensures.counted c.count.ensures c.if-count-eq0.false)
    c.search_live.ensures.ticks

pub returns-clause-ticks : goal.returns-clause-ticks
returns-clause-ticks g c =
    steps_by c.args.query.now (segment_at c.args.view.now.segments c.args.piece) c.args.steps.now
    c.search_live.new.steps
    (live_by (get_or c.args.view.now.segments c.args.piece no_segment) c.deref.result.now
    c.count.result
    (c.deref.ensures
    ∙ ap (λ (z : LiveSegment). z.live_docs) (c.viewed.view_is ∙ c.viewed-viewed.ensures.value))
    c.viewed-viewed.ensures.counted c.count.ensures c.if-count-eq0.false)
    c.search_live.ensures.ticks
