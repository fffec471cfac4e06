-- A segment's bytes: a header with the counts, the documents, the owner of each path, the documents
-- by id, and the transducer. Numbers have their greatest byte first. Source: this project's own
-- format.
use Rattle.std.specs.Prelude.{◌≡◌, ℕ, List, [], ◌∷◌, ◌++◌, length, map}
use Rattle.std.specs.Int.{w32, w64, to_be_bytes}
use Rattle.std.specs.List.{flat_map}
use Rattle.sg_paths.specs.Operations.{PlainNumbered}
use Rattle.sg_paths.specs.AllPaths.{all_paths}
use Rattle.seg_table.specs.declared.owner.Owner.{Owner}
use Rattle.seg_table.specs.Owners.{owner_of}
use Rattle.seg_table.specs.Ids.{id_index}
use Rattle.seg_bytes.specs.DocumentBytes.{documents_bytes}
use Rattle.segment.specs.Represents.{IsTextOf}

-- "SGS1"
abbrev pub segment_name : List ℕ
segment_name = 83 ∷ 71 ∷ 83 ∷ 49 ∷ []

-- the name, the numbers of documents and paths, and the length of the transducer
abbrev pub header_bytes : ℕ → ℕ → ℕ → List ℕ
header_bytes documents paths text =
    segment_name ++ (to_be_bytes w32 documents ++ (to_be_bytes w32 paths ++ to_be_bytes w64 text))

-- the places of a document and of a suggestion
abbrev pub owner_bytes : Owner → List ℕ
owner_bytes o = to_be_bytes w32 o.doc ++ o.place ∷ []

-- the owner of each path, by ordinal
abbrev pub owners_bytes : List PlainNumbered → List ℕ
owners_bytes docs = flat_map owner_bytes (map owner_of (all_paths docs))

-- the places of the documents, by id, then by place
abbrev pub ids_bytes : List PlainNumbered → List ℕ
ids_bytes docs = flat_map (to_be_bytes w32) (id_index docs)

-- what stands behind the documents, with the bytes of their transducer
abbrev pub rest_bytes : List PlainNumbered → List ℕ → List ℕ
rest_bytes docs text = owners_bytes docs ++ (ids_bytes docs ++ text)

-- the bytes of a segment, with the bytes of its transducer
abbrev pub segment_bytes : List PlainNumbered → List ℕ → List ℕ
segment_bytes docs text =
    header_bytes (length docs) (length (all_paths docs)) (length text)
    ++ (documents_bytes docs ++ rest_bytes docs text)

-- these are the bytes of the segment that represents documents
pub record IsWritten (docs : List PlainNumbered) (bytes : List ℕ) : Type 0 where
  pub text : List ℕ
  pub given : IsTextOf docs text
  pub whole : bytes ≡ segment_bytes docs text
