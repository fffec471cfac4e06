-- The queue by numbers is that of the segment.
use Rattle.std.proofs.Common.{◌≡◌, ◌∙◌, List, length, map, sym, ap, arith}
use Rattle.sg_paths.specs.Operations.{PlainNumbered}
use Rattle.sg_paths.specs.Paths.{paths}
use Rattle.seg_live.specs.LiveDocs.{live_count}
use Rattle.seg_table.specs.Owners.{greatest}
use Rattle.sg_view.specs.Viewing.{LiveSegment}
use Rattle.sg_view.proofs.StepLemmas.{queue-none, queue-some}
use Rattle.sg_view.proofs.suggesting.queue_of.Goals as goal

pub returns-then-live-eq0 : goal.returns-then-live-eq0
returns-then-live-eq0 c =
    queue-none c.args.k c.args.viewed.now c.requires
    (ap (λ (s : LiveSegment). live_count s.live_docs) (sym c.viewed.view_is)
    ∙ ap live_count (sym c.deref.ensures) ∙ sym c.count-live.ensures ∙ c.if-live-eq0.true)

pub returns : goal.returns
returns c =
    let documents : c.table-table.result.now ≡ c.args.viewed.now.documents =
    c.table-table.ensures.documents ∙ c.deref-2.ensures
    ∙ ap (λ (s : LiveSegment). s.documents) c.viewed.view_is in
    queue-some c.queue_size.result c.args.k c.most_paths.result c.len.result c.count-live.result
    c.args.viewed.now c.requires (omega (arith, c.if-live-eq0.false))
    (c.count-live.ensures ∙ ap live_count c.deref.ensures
    ∙ ap (λ (s : LiveSegment). live_count s.live_docs) c.viewed.view_is)
    c.queue_size.ensures
    (c.most_paths.ensures
    ∙ ap (λ (ds : List PlainNumbered). greatest (map (λ d. length (paths d.document)) ds))
    documents)
    (c.len.ensures.value ∙ ap (λ (ds : List PlainNumbered). length ds) documents)
