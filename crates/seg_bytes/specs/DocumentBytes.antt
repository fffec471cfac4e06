-- Documents as bytes: numbers with the greatest byte first, and each text behind its length.
-- Source: this project's own format.
use Rattle.std.specs.Prelude.{ℕ, List, ◌∷◌, ◌++◌, length}
use Rattle.std.specs.Int.{w16, w32, w64, to_be_bytes}
use Rattle.std.specs.List.{flat_map}
use Rattle.sg_paths.specs.Documents.{PlainSuggestion}
use Rattle.sg_paths.specs.Operations.{PlainNumbered}

-- bytes behind their length, which takes one byte
abbrev pub short_bytes : List ℕ → List ℕ
short_bytes text = length text ∷ text

-- the text behind its length, which takes two bytes, then the key, the weight and the contexts
unfoldable pub suggestion_bytes : PlainSuggestion → List ℕ
suggestion_bytes s =
    (to_be_bytes w16 (length s.text) ++ s.text)
    ++ (short_bytes s.key
    ++ (to_be_bytes w32 s.weight
    ++ (length s.contexts ∷ flat_map short_bytes s.contexts)))

-- the number, the id and the suggestions
unfoldable pub document_bytes : PlainNumbered → List ℕ
document_bytes d =
    to_be_bytes w64 d.seq
    ++ (short_bytes d.document.id
    ++ (length d.document.suggestions ∷ flat_map suggestion_bytes d.document.suggestions))

-- documents, one after the other
abbrev pub documents_bytes : List PlainNumbered → List ℕ
documents_bytes = flat_map document_bytes
