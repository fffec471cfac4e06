-- So far the first suggestions are copied.
use Rattle.std.proofs.Common.{◌≡◌, take}
use Rattle.sg_paths.proofs.document.copied_suggestions.Given as goal

abbrev pub invariant-loop-suggestion : goal.invariant-loop-suggestion
invariant-loop-suggestion l = l.copies.items ≡ take l.suggestion-index l.suggestions.items
