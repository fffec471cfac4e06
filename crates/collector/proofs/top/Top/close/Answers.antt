-- What is left is the report.
use Rattle.std.proofs.Common.{◌≡◌, ◌∙◌, sym, ap, subst, arith, Some, None}
use Rattle.collector.specs.Hits.{row_of}
use Rattle.collector.specs.Tops.{PlainTop, closed, report}
use Rattle.collector.proofs.ClosingLemmas.{closed-whole, closed-short}
use Rattle.collector.proofs.top.Top.close.Given.{Over}
use Rattle.collector.proofs.top.Top.close.Goals as goal

whole : (g : Over) (c : goal.After-drop-cut-inside g)
    → closed c.args.self.k (row_of (g.K.Keys.key_of c.args.keys.now)) c.args.self.hits c.args.cut
    ≡ report c.keep_preceding.new.hits.items None
whole g c =
    let row = row_of (g.K.Keys.key_of c.args.keys.now) in
    let hits = c.self.inside.hits.items in
    let n = c.self.inside.hits.ok.0 in
    let m = c.keep_preceding.new.hits.ok.0 in
    let few = c.self.invariant.1 in
    let k = c.if-len-k.true in
    let l = c.len.ensures in
    ap (closed c.args.self.k row c.args.self.hits) c.in-Some.is
    ∙ subst (λ (v : PlainTop). closed v.k row v.hits (Some c.in-Some.cut)
    ≡ report c.keep_preceding.new.hits.items None) c.self.view_is
    (closed-whole c.self.inside.k row hits c.keep_preceding.new.hits.items c.in-Some.cut
    c.keep_preceding.ensures.items (omega (arith, few, n)) (omega (arith, k, l, m)))

pub returns-then-len-k-clause-hits : goal.returns-then-len-k-clause-hits
returns-then-len-k-clause-hits g c =
    c.report_of-then-len-k.ensures.hits ∙ sym (ap (λ r. r.hits) (whole g c))

pub returns-then-len-k-clause-cut : goal.returns-then-len-k-clause-cut
returns-then-len-k-clause-cut g c =
    c.report_of-then-len-k.ensures.cut ∙ sym (ap (λ r. r.cut) (whole g c))

short : (g : Over) (c : goal.After-report_of-2 g)
    → closed c.args.self.k (row_of (g.K.Keys.key_of c.args.keys.now)) c.args.self.hits c.args.cut
    ≡ report c.keep_preceding.new.hits.items (Some c.in-Some.cut)
short g c =
    let row = row_of (g.K.Keys.key_of c.args.keys.now) in
    let m = c.keep_preceding.new.hits.ok.0 in
    let k = c.if-len-k.false in
    let l = c.len.ensures in
    ap (closed c.args.self.k row c.args.self.hits) c.in-Some.is
    ∙ subst (λ (v : PlainTop). closed v.k row v.hits (Some c.in-Some.cut)
    ≡ report c.keep_preceding.new.hits.items (Some c.in-Some.cut)) c.self.view_is
    (closed-short c.self.inside.k row c.self.inside.hits.items c.keep_preceding.new.hits.items
    c.in-Some.cut c.keep_preceding.ensures.items (omega (arith, k, l, m)))

pub returns-clause-hits : goal.returns-clause-hits
returns-clause-hits g c = c.report_of-2.ensures.hits ∙ sym (ap (λ r. r.hits) (short g c))

pub returns-clause-cut : goal.returns-clause-cut
returns-clause-cut g c = c.report_of-2.ensures.cut ∙ sym (ap (λ r. r.cut) (short g c))
