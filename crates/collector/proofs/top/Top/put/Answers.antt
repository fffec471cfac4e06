-- What is kept are the first k of what was kept and one row more.
use Rattle.std.proofs.Common.{◌≡◌, ◌≤◌, ◌⊎◌, inl, inr, length, sym, ap, subst, arith}
use Rattle.std.specs.Prelude.{insert, remove}
use Rattle.sg_base.specs.Lists.{In}
use Rattle.sg_base.specs.Ranking.{IsKept}
use Rattle.sg_base.specs.declared.hit.Hit.{Hit}
use Rattle.collector.specs.Hits.{rows_of}
use Rattle.collector.specs.Tops.{PlainTop}
use Rattle.collector.proofs.ListLemmas.{in-take, in-insert, in-remove, all-put}
use Rattle.collector.proofs.HitLemmas.{rows-moved, rows-kept, rows-inserted, kept-put, first-put}
use Rattle.collector.proofs.HitLemmas.{KeepsFirst}
use Rattle.collector.proofs.top.Top.put.Given.{Over}
use Rattle.collector.proofs.top.Top.put.Goals as goal

moved : (g : Over) (c : goal.After-move_to g)
    → KeepsFirst (g.K.Keys.key_of c.args.keys.now) c.args.self.now c.args.hit
    c.move_to.new.hits.items
moved g c =
    let key = g.K.Keys.key_of c.args.keys.now in
    let hits = c.self.inside.hits.items in
    let n : length c.as_slice.result.now ≡ length hits = ap length c.as_slice.ensures.value in
    let m = c.as_slice.ensures.len in
    let few : length hits ≤ c.self.inside.k = omega (arith, n, m) in
    subst (λ (v : PlainTop). KeepsFirst key v c.args.hit c.move_to.new.hits.items) c.self.view_is
    (rows-moved key hits c.move_to.new.hits.items c.as_slice.result.now c.as_slice-2.result.now
    c.args.hit c.self.inside.k c.place_of-at.result c.in-Some.own c.as_slice.ensures.value
    c.as_slice-2.ensures.value few c.if-at-own.true c.place_of-at.ensures.place
    (sym c.in-Some.ensures.first)
    (subst (λ (v : PlainTop). IsKept (rows_of key v.hits)) (sym c.self.view_is)
    c.requires.kept).once
    c.move_to.ensures.items)

moved_from : (g : Over) (c : goal.After-move_to g) (h : Hit) → In h c.move_to.new.hits.items
    → (h ≡ c.args.hit) ⊎ In h c.args.self.now.hits
moved_from g c h i =
    let hits = c.self.inside.hits.items in
    let put = in-insert h c.args.hit c.place_of-at.result (remove hits c.in-Some.own)
    (subst (λ zs. In h zs) c.move_to.ensures.items i) in
    subst (λ (v : PlainTop). (h ≡ c.args.hit) ⊎ In h v.hits) c.self.view_is
    (elim put as (λ _. (h ≡ c.args.hit) ⊎ In h hits) [
      | inl j ↦ inl j
      | inr j ↦ inr (in-remove h c.in-Some.own hits j)
    ])

pub returns-then-at-own-clause-rows : goal.returns-then-at-own-clause-rows
returns-then-at-own-clause-rows g c = moved g c

pub returns-then-at-own-clause-first : goal.returns-then-at-own-clause-first
returns-then-at-own-clause-first g c all is = first-put _ _ _ _ all (moved g c) is

pub returns-then-at-own-clause-from : goal.returns-then-at-own-clause-from
returns-then-at-own-clause-from g c h i = moved_from g c h i

pub returns-then-at-own-clause-kept : goal.returns-then-at-own-clause-kept
returns-then-at-own-clause-kept g c = kept-put _ _ _ _ c.requires.kept (moved g c)

pub returns-then-at-own-clause-known : goal.returns-then-at-own-clause-known
returns-then-at-own-clause-known g c =
    all-put (g.K.Keys.known c.args.keys.now) c.args.hit c.args.self.now.hits
    c.move_to.new.hits.items c.requires.known c.requires.hit (moved_from g c)

unmoved : (g : Over) (c : goal.Else-at-own g)
    → KeepsFirst (g.K.Keys.key_of c.args.keys.now) c.args.self.now c.args.hit c.args.self.now.hits
unmoved g c =
    let key = g.K.Keys.key_of c.args.keys.now in
    let hits = c.self.inside.hits.items in
    let n : length c.as_slice.result.now ≡ length hits = ap length c.as_slice.ensures.value in
    let m = c.as_slice.ensures.len in
    let few : length hits ≤ c.self.inside.k = omega (arith, n, m) in
    subst (λ (v : PlainTop). KeepsFirst key v c.args.hit v.hits) c.self.view_is
    (rows-kept key hits c.as_slice.result.now c.as_slice-2.result.now c.args.hit c.self.inside.k
    c.place_of-at.result c.in-Some.own c.as_slice.ensures.value c.as_slice-2.ensures.value few
    c.if-at-own.false c.place_of-at.ensures.bound c.place_of-at.ensures.place
    (sym c.in-Some.ensures.first))

pub returns-else-at-own-clause-rows : goal.returns-else-at-own-clause-rows
returns-else-at-own-clause-rows g c = unmoved g c

pub returns-else-at-own-clause-first : goal.returns-else-at-own-clause-first
returns-else-at-own-clause-first g c all is = first-put _ _ _ _ all (unmoved g c) is

inserted : (g : Over) (c : goal.After-insert_bounded g)
    → KeepsFirst (g.K.Keys.key_of c.args.keys.now) c.args.self.now c.args.hit
    c.insert_bounded.new.hits.items
inserted g c =
    let key = g.K.Keys.key_of c.args.keys.now in
    let hits = c.self.inside.hits.items in
    subst (λ (v : PlainTop). KeepsFirst key v c.args.hit c.insert_bounded.new.hits.items)
    c.self.view_is
    (rows-inserted key hits c.insert_bounded.new.hits.items c.as_slice.result.now
    c.as_slice-2.result.now c.args.hit c.self.inside.k c.place_of-at.result
    c.as_slice.ensures.value c.as_slice-2.ensures.value c.place_of-at.ensures.bound
    c.place_of-at.ensures.place (sym c.in-None.ensures.first) c.insert_bounded.ensures.items)

inserted_from : (g : Over) (c : goal.After-insert_bounded g) (h : Hit)
    → In h c.insert_bounded.new.hits.items → (h ≡ c.args.hit) ⊎ In h c.args.self.now.hits
inserted_from g c h i =
    let hits = c.self.inside.hits.items in
    subst (λ (v : PlainTop). (h ≡ c.args.hit) ⊎ In h v.hits) c.self.view_is
    (in-insert h c.args.hit c.place_of-at.result hits
    (in-take h c.self.inside.k (insert hits c.place_of-at.result c.args.hit)
    (subst (λ zs. In h zs) c.insert_bounded.ensures.items i)))

pub returns-in-None-clause-rows : goal.returns-in-None-clause-rows
returns-in-None-clause-rows g c = inserted g c

pub returns-in-None-clause-first : goal.returns-in-None-clause-first
returns-in-None-clause-first g c all is = first-put _ _ _ _ all (inserted g c) is

pub returns-in-None-clause-from : goal.returns-in-None-clause-from
returns-in-None-clause-from g c h i = inserted_from g c h i

pub returns-in-None-clause-kept : goal.returns-in-None-clause-kept
returns-in-None-clause-kept g c = kept-put _ _ _ _ c.requires.kept (inserted g c)

pub returns-in-None-clause-known : goal.returns-in-None-clause-known
returns-in-None-clause-known g c =
    all-put (g.K.Keys.known c.args.keys.now) c.args.hit c.args.self.now.hits
    c.insert_bounded.new.hits.items c.requires.known c.requires.hit (inserted_from g c)
