-- The count so far and that of the rest are the whole.
use Rattle.std.proofs.Common.{◌≡◌, ◌≤◌, ◌+◌, ◌*◌, drop}
use Rattle.sg_paths.specs.PathBounds.{contexts_given_in}
use Rattle.sg_paths.proofs.bound.paths_at_most.Given as goal

abbrev pub invariant-loop-numbered : goal.invariant-loop-numbered
invariant-loop-numbered l = record {
  most : l.count ≤ 256 * l.numbered-index;
  same : l.count + contexts_given_in (drop l.numbered-index l.docs) ≡ contexts_given_in l.docs;
}
