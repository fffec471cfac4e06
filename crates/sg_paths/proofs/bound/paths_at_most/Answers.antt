-- The whole count bounds the paths.
use Rattle.std.proofs.Common.{◌≡◌, ◌≤◌, ◌+◌, ℕ, List, length, drop, ap, arith}
use Rattle.std.proofs.lemmas.List.{drop_all}
use Rattle.sg_paths.specs.Operations.{PlainNumbered}
use Rattle.sg_paths.specs.AllPaths.{path_entries}
use Rattle.sg_paths.specs.PathBounds.{contexts_given_in}
use Rattle.sg_paths.proofs.BoundLemmas.{path_entries_fewer}
use Rattle.sg_paths.proofs.bound.paths_at_most.Goals as goal

bound : (docs : List PlainNumbered) (i count : ℕ) → length docs ≤ i
    → count + contexts_given_in (drop i docs) ≡ contexts_given_in docs
    → length (path_entries 0 docs) ≤ count
bound docs i count end same =
    let most = path_entries_fewer 0 docs in
    let none : contexts_given_in (drop i docs) ≡ 0 = ap contexts_given_in (drop_all i docs end) in
    omega (arith, most, none, same)

pub returns-clause-bound : goal.returns-clause-bound
returns-clause-bound c =
    bound c.args.docs.now c.loop-numbered.numbered-index c.loop-numbered.count (omega arith)
    c.loop-numbered.invariant.same
