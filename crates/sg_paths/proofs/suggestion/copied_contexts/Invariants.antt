-- So far the first contexts are copied.
use Rattle.std.proofs.Common.{◌≡◌, take}
use Rattle.sg_paths.proofs.suggestion.copied_contexts.Given as goal

abbrev pub invariant-loop-context : goal.invariant-loop-context
invariant-loop-context l = l.copies.items ≡ take l.context-index l.contexts.items
