-- The row before.
use Rattle.std.proofs.Common.{◌≡◌, ◌+◌, ◌-◌, ℕ, List, take, map, arith, subst, ap, ◌∙◌, sym}
use Rattle.fst_build.specs.Sorted.{GoesOn, MayFollow}
use Rattle.fst_tests.specs.declared.rows.Row.{Row}
use Rattle.fst_tests.specs.Rows.{tail_of}
use Rattle.fst_tests.proofs.RowLemmas.{follows_last}
use Rattle.fst_tests.proofs.rows.follows.Goals as goal

pub returns-else-at-eq0 : goal.returns-else-at-eq0
returns-else-at-eq0 c =
    let rows = c.args.rows.now in
    let path = c.args.path.now in
    let one : c.args.at - 1 + 1 ≡ c.args.at = omega (arith, c.if-at-eq0.false) in
    let last = c.as_slice.ensures.value
    ∙ ap (λ (row : Row). row.path.items) (sym c.index-rows-at.is) in
    let goes : List ℕ → Type 0 = λ l. GoesOn l path in
    let follows : ℕ → Type 0 = λ n. MayFollow (map tail_of (take n rows)) path in
    let f = follows_last rows (c.args.at - 1) c.index-rows-at.result path (omega arith)
    c.index-rows-at.is in (
      λ yes. subst follows one (f.0 (subst goes last (c.goes_on.ensures.0 yes))),
      λ h. c.goes_on.ensures.1 (subst goes (sym last) (f.1 (subst follows (sym one) h))),
    )
