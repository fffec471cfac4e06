-- What the collector reports is the report of the view.
use Rattle.std.proofs.Common.{◌∙◌, ap}
use Rattle.std.proofs.lemmas.List.Elements.{All-weaker}
use Rattle.collector.specs.Hits.{row_of}
use Rattle.sg_view.specs.Rows.{HasHit, IsNumbered, hit_key}
use Rattle.sg_view.specs.Searched.{IsHitIn}
use Rattle.sg_view.specs.Viewing.{viewed_segments}
use Rattle.sg_view.proofs.DistinctLemmas.{view_distinct}
use Rattle.sg_view.proofs.ReportLemmas.{view_report, reported_hits}
use Rattle.sg_view.proofs.view.View.suggest.Goals as goal

pub returns-in-Ok-clause-report : goal.returns-in-Ok-clause-report
returns-in-Ok-clause-report g c = λ journal are.
    view_report c.args.query.now (viewed_segments c.args.self.now) c.search_all.new.top.k
    (row_of (hit_key c.args.self.now.segments)) c.search_all.new.top.hits c.close.result.hits.items
    c.in-Ok.cut c.close.result.cut c.close.ensures.hits c.close.ensures.cut
    c.in-Ok.ensures.searched
    (c.in-Ok.ensures.k ∙ c.new-top.ensures.k ∙ ap (λ q. q.k) c.query.view_is)
    (view_distinct journal c.args.self.now are)

pub returns-in-Ok-clause-hits : goal.returns-in-Ok-clause-hits
returns-in-Ok-clause-hits g c =
    let segments = c.args.self.now.segments in
    All-weaker (IsHitIn segments) (HasHit segments) (λ h of. of.0) c.close.result.hits.items
    (reported_hits (IsHitIn segments) c.search_all.new.top.k (row_of (hit_key segments))
    c.search_all.new.top.hits c.close.result.hits.items c.in-Ok.cut c.close.ensures.hits
    c.in-Ok.ensures.known)

pub returns-in-Ok-clause-numbers : goal.returns-in-Ok-clause-numbers
returns-in-Ok-clause-numbers g c =
    let segments = c.args.self.now.segments in
    All-weaker (IsHitIn segments) (IsNumbered segments) (λ h of. of.1) c.close.result.hits.items
    (reported_hits (IsHitIn segments) c.search_all.new.top.k (row_of (hit_key segments))
    c.search_all.new.top.hits c.close.result.hits.items c.in-Ok.cut c.close.ensures.hits
    c.in-Ok.ensures.known)
