-- One document as bytes. Source: this project's own format.
use Rattle.std.specs.Prelude.{◌≡◌, ℕ, List, [], ◌∷◌, set, Some, None}
use Rattle.sg_paths.specs.Operations.{PlainNumbered}
use Rattle.seg_bytes.specs.Fields.{reads, broken}
use Rattle.seg_bytes.specs.DocumentBytes.{documents_bytes}
use Rattle.seg_bytes.specs.DocumentsRead.{documents_at}
use Rattle.seg_bytes.specs.Numbers.{wrong_number}

-- number 1, the id "a", the text "B" with the key "b", weight 1 and no context
abbrev pub example_document : PlainNumbered
example_document = record {
  seq = 1;
  document = record {
    id = 97 ∷ [];
    suggestions = record { text = 66 ∷ []; key = 98 ∷ []; weight = 1; contexts = [] } ∷ [];
  };
}

-- its 21 bytes
abbrev pub example_bytes : List ℕ
example_bytes =
    0 ∷ 0 ∷ 0 ∷ 0 ∷ 0 ∷ 0 ∷ 0 ∷ 1 ∷ 1 ∷ 97 ∷ 1 ∷
    0 ∷ 1 ∷ 66 ∷ 1 ∷ 98 ∷ 0 ∷ 0 ∷ 0 ∷ 1 ∷ 0 ∷ []

-- it is written and read; an id that is no UTF-8 breaks at its length, and the number 0 where it
-- stands
pub record TheExample : Type 0 where
  pub bytes : documents_bytes (example_document ∷ []) ≡ example_bytes
  pub read : documents_at 1 example_bytes 0 ≡ reads (example_document ∷ []) 21
  pub id : documents_at 1 (set example_bytes 9 255) 0 ≡ broken 8
  pub missing : documents_at 2 example_bytes 0 ≡ broken 21
  pub rises : wrong_number 20 (example_document ∷ []) ≡ None
  pub repeats : wrong_number 20 (example_document ∷ example_document ∷ []) ≡ Some 41
