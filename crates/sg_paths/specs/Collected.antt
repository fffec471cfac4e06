-- The paths of one document as the code collects them. No public clause cites this module.
use Rattle.std.specs.Prelude.{ℕ, Bool, not, ◌&&◌, ◌||◌, nat_eq, nat_lt, bytes_eq, filter, List}
use Rattle.std.specs.List.{list_any}
use Rattle.sg_paths.specs.Documents.{PlainSuggestion}
use Rattle.sg_paths.specs.AllPaths.{Entry, entry_of}

-- what a suggestion has in a context
abbrev pub in_context : ℕ → PlainSuggestion → ℕ → List ℕ → Entry
in_context doc s place text =
    entry_of doc (record { context = text; key = s.key; weight = s.weight; place = place })

-- whether p is kept rather than q, as of paths
abbrev pub is_kept_over : Entry → Entry → Bool
is_kept_over p q =
    bytes_eq p.context q.context && bytes_eq p.key q.key
    && (nat_lt q.weight p.weight || (nat_eq p.weight q.weight && nat_lt p.place q.place))

-- the entries over which none is kept
abbrev pub kept : List Entry → List Entry
kept entries = filter (λ q. not (list_any (λ p. is_kept_over p q) entries)) entries
