-- What a generation holds: its documents, and through which operation deletes are applied to it.
-- Source: Lucene's segments and their live docs.
use Rattle.std.specs.Prelude.{ℕ, ◌-◌, Bool, not, nat_eq, nat_le, ◌&&◌, if◌then◌else◌, Option, Some}
use Rattle.std.specs.Prelude.{None, List, [], ◌∷◌, ◌++◌, map, filter, fold}
use Rattle.std.specs.List.{filter_map, list_any}
use Rattle.sg_paths.specs.Operations.{PlainOp, PlainNumbered, documents_from}
use Rattle.sg_paths.specs.LiveDocuments.{is_deleted}
use Rattle.index_core.specs.Histories.{HistoryEvent, freeze, live_docs_updated, merge_end, Record}
use Rattle.index_core.specs.Histories.{Merge, is_among, last_of, built_generation}
use Rattle.index_core.specs.Records.{begun_merges}

-- the merges of that number: none or one
abbrev pub merges_of : Record → ℕ → List Merge
merges_of r number = filter (λ m. nat_eq m.merge number) (begun_merges r)

-- whether a merge keeps a document of these generations: it is of a source, and not deleted
abbrev pub is_kept_by : List PlainOp → PlainNumbered → List ℕ → Merge → Bool
is_kept_by journal d generations m =
    list_any (λ g. is_among g m.generations) generations && not (is_deleted journal m.upto d)

-- the generations that hold a document after one event more
abbrev pub holders_after : Record → PlainNumbered → List ℕ → HistoryEvent → List ℕ
holders_after r d generations (freeze caller generation from upto) =
    if nat_le from d.seq && nat_le d.seq upto then generations ++ generation ∷ [] else generations
holders_after r d generations (merge_end caller merge (Some into) released) =
    if list_any (is_kept_by r.journal d generations) (merges_of r merge)
    then generations ++ into ∷ [] else generations
holders_after r d generations _ = generations

-- the generations that hold a document
abbrev pub holders_of : Record → PlainNumbered → List ℕ
holders_of r d = fold (holders_after r d) [] r.history

-- the documents that a generation holds, by number, deleted ones too
abbrev pub documents_of : Record → ℕ → List PlainNumbered
documents_of r g = filter (λ d. is_among g (holders_of r d)) (documents_from 1 r.journal)

-- through which operation an event applies deletes to a generation, if it is one of its own
abbrev pub applied_by : Record → ℕ → HistoryEvent → Option ℕ
applied_by r g (freeze caller generation from upto) =
    if nat_eq generation g then Some (from - 1) else None
applied_by r g (live_docs_updated caller generation applied) =
    if nat_eq generation g then Some applied else None
applied_by r g (merge_end caller merge (Some into) released) =
    if nat_eq into g then Some (last_of (map (λ m. m.upto) (merges_of r merge))) else None
applied_by r g _ = None

-- through which operation deletes are applied to a generation
abbrev pub applied : Record → ℕ → ℕ
applied r g = last_of (filter_map (applied_by r g) r.history)

-- whether a generation has its segment
abbrev pub is_built : Record → ℕ → Bool
is_built r g = is_among g (filter_map built_generation r.history)
