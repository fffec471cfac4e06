-- The count so far and that of the rest are the whole.
use Rattle.std.proofs.Common.{◌≡◌, ◌≤◌, ◌+◌, ◌*◌, drop}
use Rattle.sg_paths.specs.PathBounds.{contexts_given}
use Rattle.sg_paths.proofs.bound.contexts_of_all.Given as goal

abbrev pub invariant-loop-suggestion : goal.invariant-loop-suggestion
invariant-loop-suggestion l = record {
  most : l.count ≤ 16 * l.suggestion-index;
  same : l.count + contexts_given (drop l.suggestion-index l.suggestions)
      ≡ contexts_given l.suggestions;
}
