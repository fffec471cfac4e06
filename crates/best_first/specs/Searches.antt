-- What the loops of a search know of a segment. No public clause cites it. Source: this project's
-- own.
use Rattle.std.specs.Prelude.{ℕ, ◌≡◌, ◌<◌, List, length, get_or}
use Rattle.sg_base.specs.declared.node.Edge.{Edge}
use Rattle.sg_paths.specs.AllPaths.{FullPath, all_paths}
use Rattle.sg_paths.specs.Operations.{PlainNumbered}
use Rattle.path_desk.specs.Entries.{Queued}
use Rattle.best_first.specs.Met.{IsMet}
use Rattle.best_first.specs.Parts.{HasSuggestion, key_at}
use Rattle.best_first.specs.PathMatches.{Setting, all_matches, match_at}
use Rattle.best_first.specs.Steps.{Knows}

-- entries that stand over nodes go on by them, and at the end have the ordinal of a path, whose
-- document, suggestion and key are there
pub record Searches (s : Setting) (nodes : List (List Edge)) (ds : List PlainNumbered)
    : Type 0 where
  pub knows : Knows (all_matches s (all_paths ds)) (IsMet s nodes) nodes
      (match_at s (all_paths ds))
  pub ordinal : (p : Queued) → IsMet s nodes p → p.entry.node.0 ≡ 0
      → p.entry.ordinal < length (all_paths ds)
  pub suggestion : (i : ℕ) (none : FullPath) → i < length (all_paths ds)
      → HasSuggestion ds (get_or (all_paths ds) i none).entry.doc
      (get_or (all_paths ds) i none).entry.place
  pub key : (i : ℕ) (none : FullPath) → i < length (all_paths ds)
      → key_at ds (get_or (all_paths ds) i none).entry.doc
      (get_or (all_paths ds) i none).entry.place
      ≡ (get_or (all_paths ds) i none).entry.key
