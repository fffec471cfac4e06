-- A path that ends goes on from none.
use Rattle.std.proofs.Common.{◌≡◌, ℕ, List, [], ◌∷◌, drop}
use Rattle.std.proofs.Math.ListN.{drop_of_length-le}
use Rattle.fst_build.specs.Sorted.{GoesOn}
use Rattle.fst_build.proofs.order.goes_on.Goals as goal

ended : (last path : List ℕ) → path ≡ [] → GoesOn last path → ⊥
ended [] path none goes = goes
ended (x ∷ xs) [] none goes = goes
ended (x ∷ xs) (y ∷ ys) none goes = absurd cc

pub returns-then-at-path : goal.returns-then-at-path
returns-then-at-path c =
    let at = c.loop-at.at in
    let none = drop_of_length-le c.args.path.now c.if-at-path.true in (
      λ no. absurd cc,
      λ goes. absurd (ended (drop at c.args.last.now) (drop at c.args.path.now) none
          (c.loop-at.invariant.1 goes)),
    )
