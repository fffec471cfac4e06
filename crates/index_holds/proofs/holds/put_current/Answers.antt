-- The place is behind all lesser generations.
use Rattle.std.proofs.Common.{◌≡◌, ◌∙◌, length, subst, ap, arith}
use Rattle.index_holds.proofs.PlaceLemmas.{insert-with_current, Parts}
use Rattle.index_holds.proofs.holds.put_current.Goals as goal

pub returns-clause-items : goal.returns-clause-items
returns-clause-items c =
    let slice = c.as_slice.ensures.value in
    let n : length c.as_slice.result.now ≡ length c.args.entries.now.items = ap length slice in
    c.in-Ok.ensures.items
    ∙ insert-with_current c.args.generation c.place_of-at.result c.args.entries.now.items
    (omega (arith, n, c.place_of-at.ensures.bound))
    (subst (λ hs. Parts c.args.generation hs c.place_of-at.result) slice
    c.place_of-at.ensures.place)
