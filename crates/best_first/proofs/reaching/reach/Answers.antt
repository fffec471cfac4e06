-- The new hit is one of the segment, as the others are.
use Rattle.std.proofs.Common.{refl, sym, subst}
use Rattle.collector.proofs.ListLemmas.{all-put}
use Rattle.best_first.specs.Hits.{IsHitOf}
use Rattle.best_first.proofs.reaching.reach.Goals as goal

pub returns-in-Some-clause-hits : goal.returns-in-Some-clause-hits
returns-in-Some-clause-hits g c =
    let Of = IsHitOf (g.S.SegParts.listed c.args.parts.now) c.args.piece in
    all-put Of c.in-Some.hit c.args.top.now.hits c.put.new.self.hits c.requires.hits
    (subst Of (sym c.in-Some.ensures.row.1)
    (record { suggestion = c.requires.suggestion; seq = refl; piece_is = refl }))
    c.put.ensures.from
