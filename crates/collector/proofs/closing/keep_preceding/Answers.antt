-- The last goes where it doesn't precede, and else all precede.
use Rattle.std.proofs.Common.{◌≡◌, ◌<◌, ◌-◌, ◌∙◌, sym, ap, arith, true, false, map, length, subst}
use Rattle.std.proofs.Common.{rules}
use Rattle.std.specs.Prelude.{vec_len, All}
use Rattle.sg_base.specs.Cuts.{precedes}
use Rattle.sg_base.specs.declared.hit.Hit.{Hit}
use Rattle.sg_base.proofs.RankingLemmas.{rank_lt, Ascending}
use Rattle.sg_base.proofs.MarkLemmas.{precedes-down}
use Rattle.collector.specs.Hits.{row_of}
use Rattle.collector.proofs.ListLemmas.{all-take, pairs-take, map-take}
use Rattle.collector.proofs.ClosingLemmas.{closed-off, closed-at}
use Rattle.collector.proofs.closing.keep_preceding.Goals as goal

pub loop-hits-preserved : goal.loop-hits-preserved
loop-hits-preserved g c =
    let row = row_of (g.K.Keys.key_of c.args.keys.now) in
    let known = g.K.Keys.known c.args.keys.now in
    let hits = c.loop-hits.hits.items in
    let n = vec_len c.loop-hits.hits in
    let gone : c.last_precedes.result ≡ false = search rules in
    let same = c.as_slice.ensures.value in
    let long : length hits ≡ n = ap length (sym same) ∙ c.as_slice.ensures.len in
    let some : 0 < n = omega arith in
    let is = c.pop.ensures.rest in
    record {
      known = subst (All known) (sym is)
          (all-take known (n - 1) hits c.loop-hits.invariant.known);
      ascending = subst (λ hs. Ascending (map row hs)) (sym is)
          (subst Ascending (sym (map-take row (n - 1) hits))
          (pairs-take (λ a b. rank_lt a b ≡ true) (n - 1) (map row hits)
          c.loop-hits.invariant.ascending));
      items = closed-off (λ (h : Hit). precedes c.args.cut.now (row h)) hits
          c.pop.new.self.items c.as_slice.result.now n same long some is
          (λ d. sym (c.last_precedes.ensures d) ∙ gone) ∙ c.loop-hits.invariant.items;
      places = c.pop.ensures.capacity ∙ c.loop-hits.invariant.places;
    }

pub returns-else-not-last_precedes-clause-items :
    goal.returns-else-not-last_precedes-clause-items
returns-else-not-last_precedes-clause-items g c =
    let hits = c.loop-hits.hits.items in
    let n = vec_len c.loop-hits.hits in
    let stays : c.last_precedes.result ≡ true = search rules in
    let same = c.as_slice.ensures.value in
    let long : length hits ≡ n = ap length (sym same) ∙ c.as_slice.ensures.len in
    let some : 0 < n = omega arith in
    closed-at (precedes c.args.cut.now) (precedes-down c.args.cut.now)
    (row_of (g.K.Keys.key_of c.args.keys.now)) hits c.as_slice.result.now n
    c.loop-hits.invariant.ascending same long some (λ d. sym (c.last_precedes.ensures d) ∙ stays)
    ∙ c.loop-hits.invariant.items
