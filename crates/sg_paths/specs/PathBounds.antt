-- A bound of the paths of documents. Source: this project's own.
use Rattle.std.specs.Prelude.{ℕ, ◌+◌, max, length, List, [], ◌∷◌}
use Rattle.sg_paths.specs.Documents.{PlainSuggestion}
use Rattle.sg_paths.specs.Operations.{PlainNumbered}

-- how many contexts suggestions are given with, where one without any counts as one
abbrev pub contexts_given : List PlainSuggestion → ℕ
contexts_given [] = 0
contexts_given (s ∷ later) = max 1 (length s.contexts) + contexts_given later

-- the same of the suggestions of documents
abbrev pub contexts_given_in : List PlainNumbered → ℕ
contexts_given_in [] = 0
contexts_given_in (d ∷ ds) = contexts_given d.document.suggestions + contexts_given_in ds
