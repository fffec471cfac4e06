-- What is true of documents as bytes. Source: this project's own.
use Rattle.std.specs.Prelude.{◌≡◌, ◌<◌, ◌+◌, ◌^◌, ℕ, true, List, ◌++◌, length, take, drop, get_or}
use Rattle.std.specs.List.{AllByRecursion}
use Rattle.sg_paths.specs.Documents.{PlainSuggestion}
use Rattle.sg_paths.specs.Operations.{PlainNumbered}
use Rattle.seg_bytes.specs.Fields.{Reader, reads}
use Rattle.seg_bytes.specs.DocumentBytes.{documents_bytes}
use Rattle.seg_bytes.specs.DocumentsRead.{may_be_text, may_be_key, may_be_weight, may_be_contexts}
use Rattle.seg_bytes.specs.DocumentsRead.{may_be_context, may_be_id, may_be_suggestions}
use Rattle.seg_bytes.specs.DocumentsRead.{documents_at}

-- wherever its bytes stand, x is read from them
abbrev pub IsReadBack : {A : Type 0} → Reader A → List ℕ → A → Type 0
IsReadBack read bytes x =
    (before after : List ℕ)
    → read (before ++ (bytes ++ after)) (length before) ≡ reads x (length before + length bytes)

-- a suggestion that its bytes can hold
pub record IsWritableSuggestion (s : PlainSuggestion) : Type 0 where
  pub text : may_be_text s.text ≡ true
  pub key : may_be_key s.key ≡ true
  pub weight : may_be_weight s.weight ≡ true
  pub count : may_be_contexts (length s.contexts) ≡ true
  pub contexts : AllByRecursion (λ c. may_be_context c ≡ true) s.contexts

-- a document that its bytes can hold
pub record IsWritable (d : PlainNumbered) : Type 0 where
  pub seq : d.seq < 2 ^ 64
  pub id : may_be_id d.document.id ≡ true
  pub count : may_be_suggestions (length d.document.suggestions) ≡ true
  pub suggestions : AllByRecursion IsWritableSuggestion d.document.suggestions

-- documents that were written are read back
abbrev pub DocumentsReadBack : Type 0
DocumentsReadBack =
    (docs : List PlainNumbered) → AllByRecursion IsWritable docs
    → IsReadBack (documents_at (length docs)) (documents_bytes docs) docs

-- as many documents with the same bytes are the same documents
abbrev pub OneListOfDocuments : Type 0
OneListOfDocuments =
    (docs others : List PlainNumbered) → AllByRecursion IsWritable docs
    → AllByRecursion IsWritable others → length docs ≡ length others
    → documents_bytes docs ≡ documents_bytes others → docs ≡ others

-- these bytes stand there
abbrev pub StandsAt : List ℕ → ℕ → List ℕ → Type 0
StandsAt part at bytes = take (length part) (drop at bytes) ≡ part

-- documents that are read stand there as they are written, and end where their bytes end
abbrev pub OnlyWrittenIsRead : Type 0
OnlyWrittenIsRead =
    (count : ℕ) (bytes : List ℕ) (at : ℕ) (docs : List PlainNumbered) (end : ℕ)
    → ((i : ℕ) → get_or bytes i 0 < 256)
    → documents_at count bytes at ≡ reads docs end
    → (length docs ≡ count) × StandsAt (documents_bytes docs) at bytes
    × (end ≡ at + length (documents_bytes docs))
