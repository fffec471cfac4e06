-- How a merge is worked. No public clause cites this module.
use Rattle.std.specs.Prelude.{◌≤◌, ℕ, suc, Bool, nat_eq, nat_lt, List, [], ◌∷◌, ◌++◌}
use Rattle.std.specs.Prelude.{length, take, drop, sum_by, count_by, if◌then◌else◌}
use Rattle.std.specs.List.{AllByRecursion, flat_map}
use Rattle.sg_base.specs.Ranking.{in_order}
use Rattle.sg_paths.specs.declared.limits.TheConstants.{MOST_SEGMENT_DOCUMENTS}
use Rattle.sg_paths.specs.declared.limits.TheConstants.{MOST_SEGMENT_PATHS}
use Rattle.sg_paths.specs.Operations.{PlainNumbered, PlainBatch}
use Rattle.sg_paths.specs.Paths.{paths}
use Rattle.segment.specs.Pieces.{PlainPiece, piece_documents}
use Rattle.segment.specs.Views.{all_documents}
use Rattle.piece_docs.specs.PieceDocs.{live_docs_less}
use Rattle.merge_work.specs.Merging.{IsSource, document_cmp}

-- the document behind the last
abbrev pub no_document : PlainNumbered
no_document = record { seq = 0; document = record { id = []; suggestions = [] } }

-- the documents that are live
abbrev pub live_of : List PlainNumbered → List Bool → List PlainNumbered
live_of [] live_docs = []
live_of (d ∷ ds) [] = []
live_of (d ∷ ds) (live ∷ later) = if live then d ∷ live_of ds later else live_of ds later

-- the live documents of a source, less those that batches delete, up to upto
abbrev pub kept_of : ℕ → List PlainBatch → PlainPiece → List PlainNumbered
kept_of upto batches p =
    live_of (piece_documents p) (live_docs_less upto batches p)

-- those of all sources, by number
abbrev pub documents_kept : ℕ → List PlainBatch → List PlainPiece → List PlainNumbered
documents_kept upto batches pieces = in_order document_cmp (flat_map (kept_of upto batches) pieces)

-- how many at the front have lesser numbers than n
abbrev pub count_below : ℕ → List PlainNumbered → ℕ
count_below n [] = 0
count_below n (d ∷ ds) = if nat_lt d.seq n then suc (count_below n ds) else 0

-- two lists as one: before each of the first come those of the later with lesser numbers
abbrev pub merged : List PlainNumbered → List PlainNumbered → List PlainNumbered
merged [] later = later
merged (d ∷ first) later =
    take (count_below d.seq later) later
    ++ d ∷ merged first (drop (count_below d.seq later) later)

-- pieces that can be merged
pub record AreSources (pieces : List PlainPiece) : Type 0 where
  pub sources : AllByRecursion IsSource pieces
  pub numbers : (n : ℕ) → count_by (λ d. nat_eq d.seq n) (all_documents pieces) ≤ 1
  pub documents : length (all_documents pieces) ≤ MOST_SEGMENT_DOCUMENTS
  pub paths : sum_by (λ d. length (paths d.document)) (all_documents pieces)
      ≤ MOST_SEGMENT_PATHS
