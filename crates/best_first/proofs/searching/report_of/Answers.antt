-- The hits of the report are some of those that were kept.
use Rattle.std.proofs.Common.{sym, subst}
use Rattle.std.specs.Prelude.{All}
use Rattle.collector.specs.Hits.{row_of}
use Rattle.best_first.specs.Hits.{IsHitOf}
use Rattle.best_first.proofs.SizingLemmas.{closed-all}
use Rattle.best_first.proofs.searching.report_of.Goals as goal

pub returns-clause-of : goal.returns-clause-of
returns-clause-of g c =
    let Of = IsHitOf (g.S.SegParts.listed c.args.parts.now) c.args.piece in
    subst (All Of) (sym c.close-report.ensures.hits)
    (closed-all Of c.args.top.k (row_of (g.S.Keys.key_of c.args.parts.now)) c.args.top.hits
    c.args.cut c.requires.hits)
