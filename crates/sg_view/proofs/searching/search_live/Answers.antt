-- The rows of the segment's search are put.
use Rattle.std.proofs.Common.{◌∙◌, inl, List, ap, sym}
use Rattle.sg_base.specs.declared.hit.Hit.{Hit}
use Rattle.collector.specs.Hits.{rows_of}
use Rattle.sg_view.specs.Rows.{hit_key}
use Rattle.sg_view.specs.Searched.{collected}
use Rattle.sg_view.proofs.searching.search_live.Goals as goal

pub returns-clause-adds : goal.returns-clause-adds
returns-clause-adds g c =
    let key = hit_key c.args.view.now.segments in
    let hits = c.in_ok-report.report.hits.items in
    let old = rows_of key c.args.top.now.hits in (
      rows_of key hits,
      inl (c.requires.live, c.in_ok-report.ensures.search),
      c.put_hits.ensures.rows
          ∙ ap (λ (hs : List Hit). collected c.args.top.now.k (rows_of key hs) old) c.items.ensures
          ∙ ap (λ k. collected k (rows_of key hits) old) (sym c.put_hits.ensures.k),
    )
