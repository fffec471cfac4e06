-- All of the path.
use Rattle.std.proofs.Common.{◌≡◌, ◌∙◌, ap, arith, drop, List, [], ◌∷◌, refl}
use Rattle.std.proofs.Math.ListN.{drop_of_length-le}
use Rattle.fst_build.specs.declared.level.Level.{Level}
use Rattle.fst_build.specs.Levels.{shared_length}
use Rattle.fst_build.proofs.branching.shared_front.Goals as goal

shared_none : (ls : List Level) → shared_length ls [] ≡ 0
shared_none [] = refl
shared_none (l ∷ ls) = refl

pub returns : goal.returns
returns c =
    let ls = drop c.loop-at.at c.args.levels.now in
    let z : shared_length ls (drop c.loop-at.at c.args.path.now) ≡ 0 =
    ap (shared_length ls) (drop_of_length-le c.args.path.now c.loop-at-test.false)
    ∙ shared_none ls in
    omega (arith, z, c.loop-at.invariant, c.loop-at.auto.at-end, c.loop-at-test.false)
