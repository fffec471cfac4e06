-- What is true of a segment's bytes. Source: this project's own.
use Rattle.std.specs.Prelude.{◌≡◌, ◌≤◌, ◌<◌, ◌^◌, ℕ, List, length, Option}
use Rattle.std.specs.List.{AllByRecursion}
use Rattle.sg_paths.specs.declared.limits.TheConstants.{MOST_SEGMENT_DOCUMENTS}
use Rattle.sg_paths.specs.declared.limits.TheConstants.{MOST_SEGMENT_PATHS}
use Rattle.sg_paths.specs.Operations.{PlainNumbered}
use Rattle.sg_paths.specs.AllPaths.{all_paths}
use Rattle.fst_code.specs.Shapes.{IsBytes}
use Rattle.seg_bytes.specs.declared.limits.TheConstants.{MOST_SEQ}
use Rattle.seg_bytes.specs.Laws.{IsWritable}
use Rattle.segment.specs.Represents.{NumbersRise}
use Rattle.segment.specs.SegmentBytes.{IsWritten}
use Rattle.segment.specs.Rules.{Finds}
use Rattle.segment.specs.Faults.{Accepts}

-- nothing else is found in the same bytes
abbrev pub FindsOne : Type 0
FindsOne =
    (bytes : List ℕ) (one other : Option (ℕ × ℕ)) → Finds bytes one → Finds bytes other
    → one ≡ other

-- a document that a segment of the index may hold: its number is 1 to the most
abbrev pub IsNumbered : PlainNumbered → Type 0
IsNumbered d = (1 ≤ d.seq) × (d.seq ≤ MOST_SEQ)

-- documents that bytes can hold, within the limits of a segment
pub record MayBeHeld (docs : List PlainNumbered) : Type 0 where
  pub writable : AllByRecursion IsWritable docs
  pub numbered : AllByRecursion IsNumbered docs
  pub rise : NumbersRise docs
  pub few : length docs ≤ MOST_SEGMENT_DOCUMENTS
  pub many : length (all_paths docs) ≤ MOST_SEGMENT_PATHS

-- what was written is accepted, and its documents are read back
abbrev pub WrittenIsAccepted : Type 0
WrittenIsAccepted =
    (docs : List PlainNumbered) (bytes : List ℕ) → MayBeHeld docs → IsWritten docs bytes
    → length bytes < 2 ^ 64 → Accepts bytes docs

-- accepted bytes are those that are written of their documents
abbrev pub AcceptedIsWritten : Type 0
AcceptedIsWritten =
    (docs : List PlainNumbered) (bytes : List ℕ) → IsBytes bytes → Accepts bytes docs
    → IsWritten docs bytes
