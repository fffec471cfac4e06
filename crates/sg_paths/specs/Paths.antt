-- The paths of a document: one for each pair of context and key. Source: Lucene's
-- ContextSuggestField, whose contexts lead the key; which entry is kept is this project's own.
use Rattle.std.specs.Prelude.{◌≡◌, ◌≤◌, ℕ, Bool, not, nat_eq, nat_lt, ◌&&◌, ◌||◌, ◌+◌, List, []}
use Rattle.std.specs.Prelude.{◌∷◌, ◌++◌, map, filter, bytes_eq, Any, Contains}
use Rattle.std.specs.List.{list_any, AllPairs}
use Rattle.sg_paths.specs.Documents.{PlainSuggestion, PlainDocument}

-- a key in a context, with the weight and the place from 0 of its suggestion
pub record PlainPath : Type 0 where
  pub context : List ℕ
  pub key : List ℕ
  pub weight : ℕ
  pub place : ℕ

-- the texts, each once
abbrev pub distinct_texts : List (List ℕ) → List (List ℕ)
distinct_texts [] = []
distinct_texts (text ∷ texts) =
    text ∷ filter (λ other. not (bytes_eq other text)) (distinct_texts texts)

-- the contexts of a suggestion: without any it has the empty one alone
abbrev pub contexts_of : List (List ℕ) → List (List ℕ)
contexts_of [] = [] ∷ []
contexts_of (text ∷ texts) = distinct_texts (text ∷ texts)

-- what each suggestion has in each of its contexts, where the first has this place
abbrev pub entries_from : ℕ → List PlainSuggestion → List PlainPath
entries_from place [] = []
entries_from place (s ∷ later) =
    map (λ text. record { context = text; key = s.key; weight = s.weight; place = place })
    (contexts_of s.contexts)
    ++ entries_from (place + 1) later

-- whether p is kept rather than q: the same context and key, and a greater weight, or the same
-- weight and a lesser place
abbrev pub is_kept_over : PlainPath → PlainPath → Bool
is_kept_over p q =
    bytes_eq p.context q.context && bytes_eq p.key q.key
    && (nat_lt q.weight p.weight || (nat_eq p.weight q.weight && nat_lt p.place q.place))

-- the entries over which none is kept
abbrev pub paths : PlainDocument → List PlainPath
paths d =
    let entries = entries_from 0 d.suggestions in
    filter (λ q. not (list_any (λ p. is_kept_over p q) entries)) entries

-- p has the context and the key of q and isn't worse: no lesser weight, and at the same weight no
-- later place
pub record IsNoWorse (p q : PlainPath) : Type 0 where
  pub context : p.context ≡ q.context
  pub key : p.key ≡ q.key
  pub weight : q.weight ≤ p.weight
  pub place : p.weight ≡ q.weight → p.place ≤ q.place

-- No two paths of a document have one context and key.
abbrev pub EachPairHasOnePath : Type 0
EachPairHasOnePath =
    (d : PlainDocument) → AllPairs (λ p q. p.context ≡ q.context → p.key ≡ q.key → ⊥) (paths d)

-- Each entry of a document has a path that isn't worse.
abbrev pub EachEntryHasAPath : Type 0
EachEntryHasAPath =
    (d : PlainDocument) (q : PlainPath) → Contains (entries_from 0 d.suggestions) q
    → Any (λ p. IsNoWorse p q) (paths d)
