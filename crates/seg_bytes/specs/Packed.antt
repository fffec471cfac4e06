-- What packed documents keep, and what bytes begin with. No public clause cites this module.
use Rattle.std.specs.Prelude.{◌≡◌, ◌≤◌, ◌+◌, ◌*◌, ℕ, List, [], ◌∷◌, ◌++◌, length}
use Rattle.std.specs.Int.{w32, to_be_bytes}
use Rattle.std.specs.List.{AllByRecursion, flat_map}
use Rattle.sg_paths.specs.Documents.{PlainSuggestion}
use Rattle.sg_paths.specs.Operations.{PlainNumbered}
use Rattle.sg_paths.specs.declared.limits.TheConstants.{MOST_SEGMENT_DOCUMENTS}
use Rattle.seg_bytes.specs.Fields.{Reading, reads, broken}
use Rattle.seg_bytes.specs.DocumentBytes.{document_bytes, documents_bytes, short_bytes}
use Rattle.seg_bytes.specs.DocumentBytes.{suggestion_bytes}
use Rattle.seg_bytes.specs.DocumentsRead.{documents_at}
use Rattle.seg_bytes.specs.Laws.{IsWritable, IsWritableSuggestion}

-- what was read, and nothing of what breaks
abbrev pub read_or_none : {A : Type 0} → Reading (List A) → List A
read_or_none (reads xs end) = xs
read_or_none (broken at) = []

-- the documents, so many, that bytes are
unfoldable pub documents_in : ℕ → List ℕ → List PlainNumbered
documents_in count bytes = read_or_none (documents_at count bytes 0)

-- where the bytes of each document begin, those of the first at an offset
abbrev pub starts_from : ℕ → List PlainNumbered → List ℕ
starts_from at [] = []
starts_from at (d ∷ ds) = at ∷ starts_from (at + length (document_bytes d)) ds

-- documents as their bytes, with the offset at which each begins
pub record IsPacked (docs : List PlainNumbered) (bytes starts : List ℕ) : Type 0 where
  pub whole : bytes ≡ documents_bytes docs
  pub begins : starts ≡ starts_from 0 docs
  pub writable : AllByRecursion IsWritable docs
  pub few : length docs ≤ MOST_SEGMENT_DOCUMENTS
  pub most : length bytes ≤ 65536 * length docs

-- bytes begin with those of a document, which they can hold
pub record BeginsWith (d : PlainNumbered) (rest bytes : List ℕ) : Type 0 where
  pub writable : IsWritable d
  pub whole : bytes ≡ document_bytes d ++ rest

-- bytes begin with those of suggestions, which they can hold
pub record BeginWith (ss : List PlainSuggestion) (rest bytes : List ℕ) : Type 0 where
  pub writable : AllByRecursion IsWritableSuggestion ss
  pub whole : bytes ≡ flat_map suggestion_bytes ss ++ rest

-- what stands behind the key of a suggestion that goes before bytes
abbrev pub behind_key : PlainSuggestion → List ℕ → List ℕ
behind_key s rest =
    to_be_bytes w32 s.weight ++ (length s.contexts ∷ (flat_map short_bytes s.contexts ++ rest))

-- what stands behind the id of a document that goes before bytes
abbrev pub behind_id : PlainNumbered → List ℕ → List ℕ
behind_id d rest =
    length d.document.suggestions ∷ (flat_map suggestion_bytes d.document.suggestions ++ rest)
