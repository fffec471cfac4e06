-- What a segment's bytes and documents have to do with each other: the transducer maps exactly the
-- documents' paths to their costs. Source: Lucene's suggest.document, where a segment holds
-- documents and the transducer of their suggestions, and a cost is what a weight lacks to the
-- greatest.
use Rattle.std.specs.Prelude.{◌≡◌, ◌≤◌, ◌<◌, ℕ, ◌-◌, length, map, List, [], ◌∷◌}
use Rattle.std.specs.List.{All}
use Rattle.sg_base.specs.declared.limits.TheConstants.{MOST_WEIGHT}
use Rattle.sg_paths.specs.declared.limits.TheConstants.{MOST_SEGMENT_DOCUMENTS}
use Rattle.sg_paths.specs.declared.limits.TheConstants.{MOST_SEGMENT_PATHS}
use Rattle.sg_paths.specs.Operations.{PlainNumbered}
use Rattle.sg_paths.specs.AllPaths.{FullPath, all_paths, path_bytes}
use Rattle.sg_paths.specs.PathLaws.{IsLegal}
use Rattle.fst_code.specs.Tails.{Tail}
use Rattle.fst_code.specs.Bytes.{nodes_of}
use Rattle.fst_code.specs.Lists.{list_of, IsCanonical, IsOnlyText}
use Rattle.fst_code.specs.Rules.{IsValid}
use Rattle.fst_code.specs.Shapes.{IsBytes}
use Rattle.fst_walk.specs.Starts.{AllHaveContexts}

-- a path's bytes with its cost: the greatest weight less its own
abbrev pub path_tail : FullPath → Tail
path_tail p = (path_bytes p, MOST_WEIGHT - p.entry.weight)

-- the paths of documents with their costs, in byte order
abbrev pub path_tails : List PlainNumbered → List Tail
path_tails docs = map path_tail (all_paths docs)

-- each document has a greater number than the one before it
abbrev pub RiseFrom : ℕ → List PlainNumbered → Type 0
RiseFrom seq [] = Unit {0}
RiseFrom seq (d ∷ ds) = (seq < d.seq) × RiseFrom d.seq ds

-- the documents' numbers rise strictly
abbrev pub NumbersRise : List PlainNumbered → Type 0
NumbersRise [] = Unit {0}
NumbersRise (d ∷ ds) = RiseFrom d.seq ds

-- a transducer's bytes represent documents: they map exactly the documents' paths to their costs,
-- canonically, so no other bytes do, and each path begins with a context; the documents have
-- rising numbers, and there aren't too many of them
pub record Represents (docs : List PlainNumbered) (text : List ℕ) : Type 0 where
  pub maps : list_of text ≡ path_tails docs
  pub canonical : IsCanonical (nodes_of text)
  pub only : IsOnlyText (path_tails docs) text
  pub contexts : AllHaveContexts (path_tails docs)
  pub legal : All (λ p. IsLegal p.entry) (all_paths docs)
  pub rise : NumbersRise docs
  pub few : length docs ≤ MOST_SEGMENT_DOCUMENTS
  pub many : length (all_paths docs) ≤ MOST_SEGMENT_PATHS

-- the bytes of the documents' transducer: there are no others
pub record IsTextOf (docs : List PlainNumbered) (text : List ℕ) : Type 0 where
  pub bytes : IsBytes text
  pub valid : IsValid text
  pub maps : list_of text ≡ path_tails docs
