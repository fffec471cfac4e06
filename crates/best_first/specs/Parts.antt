-- What a segment's documents and nodes have to do with each other: what a search may rely on.
-- Source: Lucene's suggest.document, where a transducer maps the suggestions of a segment's
-- documents.
use Rattle.std.specs.List.{AllByRecursion}
use Rattle.std.specs.Prelude.{ℕ, ◌≡◌, ◌<◌, ◌≤◌, ◌-◌, List, [], length, get_or, map, max, ◌∷◌}
use Rattle.sg_base.specs.Lists.{Pairs}
use Rattle.sg_base.specs.declared.limits.TheConstants.{MOST_WEIGHT}
use Rattle.sg_base.specs.declared.node.Edge.{Edge}
use Rattle.sg_paths.specs.AllPaths.{FullPath, all_paths, path_bytes}
use Rattle.sg_paths.specs.Documents.{PlainSuggestion}
use Rattle.sg_paths.specs.Operations.{PlainNumbered}
use Rattle.sg_paths.specs.PathLaws.{IsLegal}
use Rattle.sg_paths.specs.declared.limits.TheConstants.{MOST_SEGMENT_PATHS}
use Rattle.fst_code.specs.Lists.{root_paths}
use Rattle.fst_code.specs.Tails.{Tail}
use Rattle.fst_code.specs.Transducers.{IsTransducer}

-- a path with its cost, as a transducer maps it
abbrev pub tail_of : FullPath → Tail
tail_of p = (path_bytes p, MOST_WEIGHT - p.entry.weight)

-- paths with their costs
abbrev pub path_tails : List FullPath → List Tail
path_tails ps = map tail_of ps

-- the documents of a segment: contexts, keys and weights are legal, there aren't too many paths,
-- and numbers rise
pub record AreDocuments (ds : List PlainNumbered) : Type 0 where
  pub legal : AllByRecursion (λ p. IsLegal p.entry) (all_paths ds)
  pub few : length (all_paths ds) ≤ MOST_SEGMENT_PATHS
  pub rising : Pairs (λ a b. a.seq < b.seq) ds

-- a transducer maps the paths of documents, each to what its weight lacks to the greatest
pub record IsMapping (nodes : List (List Edge)) (ds : List PlainNumbered) : Type 0 where
  pub transducer : IsTransducer nodes
  pub maps : root_paths nodes ≡ path_tails (all_paths ds)

-- the most bytes of a path
abbrev pub most_bytes : List Tail → ℕ
most_bytes [] = 0
most_bytes (t ∷ ts) = max (length t.0) (most_bytes ts)

-- the same of the paths that nodes map
abbrev pub most_path_bytes : List (List Edge) → ℕ
most_path_bytes nodes = most_bytes (root_paths nodes)

-- the document behind the last
abbrev pub no_document : PlainNumbered
no_document = record { seq = 0; document = record { id = []; suggestions = [] } }

-- the number of the document at a place
abbrev pub seq_at : List PlainNumbered → ℕ → ℕ
seq_at ds i = (get_or ds i no_document).seq

-- the suggestion behind the last
abbrev pub no_suggestion : PlainSuggestion
no_suggestion = record { text = []; key = []; weight = 0; contexts = [] }

-- the suggestions of the document at a place
abbrev pub suggestions_at : List PlainNumbered → ℕ → List PlainSuggestion
suggestions_at ds doc = (get_or ds doc no_document).document.suggestions

-- there is a document at the first place, and in it a suggestion at the second
abbrev pub HasSuggestion : List PlainNumbered → ℕ → ℕ → Type 0
HasSuggestion ds doc place = (doc < length ds) × (place < length (suggestions_at ds doc))

-- its key
abbrev pub key_at : List PlainNumbered → ℕ → ℕ → List ℕ
key_at ds doc place = (get_or (suggestions_at ds doc) place no_suggestion).key
