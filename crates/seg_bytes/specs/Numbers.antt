-- The numbers of documents in bytes, which rise. Source: this project's own format.
use Rattle.std.specs.Prelude.{ℕ, ◌+◌, ◌&&◌, nat_lt, nat_le, if◌then◌else◌}
use Rattle.std.specs.Prelude.{List, [], ◌∷◌, length, Option, Some, None}
use Rattle.sg_paths.specs.Operations.{PlainNumbered}
use Rattle.seg_bytes.specs.declared.limits.TheConstants.{MOST_SEQ}
use Rattle.seg_bytes.specs.DocumentBytes.{document_bytes}

-- where the first number stands that isn't over the one before or is over the most, of documents
-- whose bytes begin at an offset and come after the number last
unfoldable pub wrong_number_after : ℕ → ℕ → List PlainNumbered → Option ℕ
wrong_number_after last at [] = None
wrong_number_after last at (d ∷ ds) =
    if nat_lt last d.seq && nat_le d.seq MOST_SEQ
    then wrong_number_after d.seq (at + length (document_bytes d)) ds else Some at

-- numbers rise strictly and are 1 to the most
abbrev pub wrong_number : ℕ → List PlainNumbered → Option ℕ
wrong_number = wrong_number_after 0
