-- A segment of one document as bytes. Source: this project's own format.
use Rattle.std.specs.Prelude.{◌≡◌, ℕ, List, [], ◌∷◌, ◌++◌, set, Some, None}
use Rattle.seg_bytes.specs.Example.{example_document, example_bytes}
use Rattle.segment.specs.Represents.{IsTextOf}
use Rattle.segment.specs.SegmentBytes.{segment_bytes}
use Rattle.segment.specs.Rules.{first_broken, documents_in}

-- its one path, 1d 62 00 00 00 00 00, costs 2,147,483,646: eight nodes, and an arc to each but the
-- last
abbrev pub example_text : List ℕ
example_text =
    83 ∷ 71 ∷ 84 ∷ 49 ∷ 0 ∷ 0 ∷ 0 ∷ 8 ∷ 0 ∷ 0 ∷ 0 ∷ 7 ∷ 0 ∷ 0 ∷ 0 ∷ 1 ∷
    0 ∷ 0 ∷ 0 ∷ 0 ∷ 0 ∷ 0 ∷ 0 ∷ 1 ∷ 0 ∷ 0 ∷ 0 ∷ 2 ∷ 0 ∷ 0 ∷ 0 ∷ 3 ∷
    0 ∷ 0 ∷ 0 ∷ 4 ∷ 0 ∷ 0 ∷ 0 ∷ 5 ∷ 0 ∷ 0 ∷ 0 ∷ 6 ∷ 0 ∷ 0 ∷ 0 ∷ 7 ∷
    0 ∷ 0 ∷ 0 ∷ 0 ∷ 0 ∷ 0 ∷ 0 ∷ 0 ∷ 0 ∷ 0 ∷ 0 ∷ 0 ∷ 0 ∷
    0 ∷ 0 ∷ 0 ∷ 0 ∷ 0 ∷ 0 ∷ 0 ∷ 0 ∷ 0 ∷ 0 ∷ 0 ∷ 0 ∷ 1 ∷
    0 ∷ 0 ∷ 0 ∷ 0 ∷ 0 ∷ 0 ∷ 0 ∷ 0 ∷ 0 ∷ 0 ∷ 0 ∷ 0 ∷ 2 ∷
    0 ∷ 0 ∷ 0 ∷ 0 ∷ 0 ∷ 0 ∷ 0 ∷ 0 ∷ 0 ∷ 0 ∷ 0 ∷ 0 ∷ 3 ∷
    0 ∷ 0 ∷ 0 ∷ 0 ∷ 0 ∷ 0 ∷ 0 ∷ 0 ∷ 0 ∷ 0 ∷ 0 ∷ 0 ∷ 4 ∷
    98 ∷ 0 ∷ 0 ∷ 0 ∷ 0 ∷ 0 ∷ 0 ∷ 0 ∷ 0 ∷ 0 ∷ 0 ∷ 0 ∷ 5 ∷
    29 ∷ 127 ∷ 255 ∷ 255 ∷ 254 ∷ 0 ∷ 0 ∷ 0 ∷ 0 ∷ 0 ∷ 0 ∷ 0 ∷ 6 ∷ []

-- the header, the document, the owner of the path, the place of the id, and the transducer: 189
abbrev pub example_segment : List ℕ
example_segment =
    (83 ∷ 71 ∷ 83 ∷ 49 ∷ 0 ∷ 0 ∷ 0 ∷ 1 ∷ 0 ∷ 0 ∷ 0 ∷ 1 ∷
    0 ∷ 0 ∷ 0 ∷ 0 ∷ 0 ∷ 0 ∷ 0 ∷ 139 ∷ [])
    ++ (example_bytes ++ ((0 ∷ 0 ∷ 0 ∷ 0 ∷ 0 ∷ []) ++ ((0 ∷ 0 ∷ 0 ∷ 0 ∷ []) ++ example_text)))

-- these are its bytes, which break no rule; another last byte breaks rule 7 there
pub record TheExample : Type 0 where
  pub text : IsTextOf (example_document ∷ []) example_text
  pub bytes : segment_bytes (example_document ∷ []) example_text ≡ example_segment
  pub documents : documents_in example_segment ≡ example_document ∷ []
  pub sound : first_broken example_text example_segment ≡ None
  pub broken : first_broken example_text (set example_segment 188 7) ≡ Some (7, 188)
