-- The rules of a segment's bytes, in their order: which is broken first, and where. Each rule is
-- the offset where it is broken, if it is. Source: this project's own format.
use Rattle.std.specs.Prelude.{◌≡◌, ℕ, ◌+◌, ◌*◌, not, ◌==◌, nat_lt, bytes_eq, drop, length}
use Rattle.std.specs.Prelude.{List, [], ◌∷◌, Option, Some, None}
use Rattle.std.specs.Int.{w32, w64}
use Rattle.sg_paths.specs.declared.limits.TheConstants.{MOST_SEGMENT_DOCUMENTS}
use Rattle.sg_paths.specs.declared.limits.TheConstants.{MOST_SEGMENT_PATHS}
use Rattle.sg_paths.specs.Operations.{PlainNumbered}
use Rattle.sg_paths.specs.AllPaths.{all_paths}
use Rattle.fst_code.specs.Bytes.{number_at}
use Rattle.fst_code.specs.Rules.{or_first, firsts, broken_if, common, ruled}
use Rattle.seg_bytes.specs.Fields.{Reading, reads, broken}
use Rattle.seg_bytes.specs.DocumentsRead.{documents_at}
use Rattle.seg_bytes.specs.Numbers.{wrong_number}
use Rattle.segment.specs.Represents.{IsTextOf}
use Rattle.segment.specs.SegmentBytes.{rest_bytes, segment_name}

-- rule 1: there are at least 20 bytes
abbrev pub rule_1 : List ℕ → Option ℕ
rule_1 bytes = broken_if (nat_lt (length bytes) 20) (length bytes)

-- rule 2: the first four bytes are the name
abbrev pub rule_2 : List ℕ → Option ℕ
rule_2 bytes = broken_if (nat_lt (common segment_name bytes) 4) (common segment_name bytes)

-- the header's numbers of documents and paths, and the length of the transducer
abbrev pub document_count : List ℕ → ℕ
document_count = number_at w32 4

abbrev pub path_count : List ℕ → ℕ
path_count = number_at w32 8

abbrev pub text_length : List ℕ → ℕ
text_length = number_at w64 12

-- rule 3: there aren't too many documents or paths
abbrev pub rule_3 : List ℕ → Option ℕ
rule_3 bytes =
    or_first (broken_if (nat_lt MOST_SEGMENT_DOCUMENTS (document_count bytes)) 4)
    (broken_if (nat_lt MOST_SEGMENT_PATHS (path_count bytes)) 8)

-- the first broken one of the rules of the header
abbrev pub header_broken : List ℕ → Option (ℕ × ℕ)
header_broken bytes =
    firsts (ruled 1 (rule_1 bytes) ∷ ruled 2 (rule_2 bytes) ∷ ruled 3 (rule_3 bytes) ∷ [])

-- rule 4: documents are read behind the header, as many as it says
abbrev pub documents_read : List ℕ → Reading (List PlainNumbered)
documents_read bytes = documents_at (document_count bytes) bytes 20

-- the documents that are read, none where none are
abbrev pub read_of : Reading (List PlainNumbered) → List PlainNumbered
read_of (reads docs end) = docs
read_of (broken at) = []

abbrev pub documents_in : List ℕ → List PlainNumbered
documents_in bytes = read_of (documents_read bytes)

-- how many bytes the header says that stand behind the documents
abbrev pub rest_length : List ℕ → ℕ
rest_length bytes = 5 * path_count bytes + 4 * document_count bytes + text_length bytes

-- rule 6: the header has the number of the documents' paths, and behind the documents stand as
-- many bytes as it says
abbrev pub rule_6 : ℕ → ℕ → List ℕ → Option ℕ
rule_6 paths end bytes =
    or_first (broken_if (not (path_count bytes == paths)) 8)
    (broken_if (not (length bytes == end + rest_length bytes)) (length bytes))

-- the rules from 4 to 6, where rule 5 is that the documents' numbers rise from 1
abbrev pub reading_broken : Reading (List PlainNumbered) → List ℕ → Option (ℕ × ℕ)
reading_broken (broken at) bytes = Some (4, at)
reading_broken (reads docs end) bytes =
    or_first (ruled 5 (wrong_number 20 docs))
    (ruled 6 (rule_6 (length (all_paths docs)) end bytes))

-- the first broken one of the rules up to 6
abbrev pub first_six_broken : List ℕ → Option (ℕ × ℕ)
first_six_broken bytes =
    or_first (header_broken bytes) (reading_broken (documents_read bytes) bytes)

-- rule 7: behind the documents stand their owners, their places by id and their transducer; it is
-- broken at the first byte that differs, or where the shorter one ends
abbrev pub rule_7 : Reading (List PlainNumbered) → List ℕ → List ℕ → Option ℕ
rule_7 (broken at) text bytes = None
rule_7 (reads docs end) text bytes =
    broken_if (not (bytes_eq (rest_bytes docs text) (drop end bytes)))
    (end + common (rest_bytes docs text) (drop end bytes))

-- the first rule that bytes break, and the offset where they break it, with the bytes of the
-- documents' transducer
abbrev pub first_broken : List ℕ → List ℕ → Option (ℕ × ℕ)
first_broken text bytes =
    or_first (first_six_broken bytes) (ruled 7 (rule_7 (documents_read bytes) text bytes))

-- what is found in bytes: the first rule that they break, or none; where they break none of the
-- first six, their documents have a transducer, for rule 7
pub record Finds (bytes : List ℕ) (found : Option (ℕ × ℕ)) : Type 0 where
  pub text : List ℕ
  pub given : first_six_broken bytes ≡ None → IsTextOf (documents_in bytes) text
  pub first : first_broken text bytes ≡ found
