-- What is known between the steps of the check. No public clause cites this module.
use Rattle.std.specs.Prelude.{◌≡◌, ◌≤◌, ◌+◌, ℕ, List, length, Some, None}
use Rattle.sg_paths.specs.Operations.{PlainNumbered}
use Rattle.fst_code.specs.declared.error.CodeError.{CodeError}
use Rattle.fst_code.specs.declared.error.CodeError.TheVariants.{Bad, Memory}
use Rattle.seg_bytes.specs.Fields.{reads}
use Rattle.seg_bytes.specs.DocumentBytes.{documents_bytes}
use Rattle.seg_bytes.specs.Numbers.{wrong_number}
use Rattle.segment.specs.Rules.{header_broken, document_count, documents_read}
use Rattle.segment.specs.Rules.{first_six_broken}

-- documents that were read up to an offset, where the first four rules hold
pub record IsFound (bytes : List ℕ) (docs : List PlainNumbered) (end : ℕ) : Type 0 where
  pub header : header_broken bytes ≡ None
  pub read : documents_read bytes ≡ reads docs end
  pub count : length docs ≡ document_count bytes
  pub stop : end ≡ 20 + length (documents_bytes docs)
  pub within : end ≤ length bytes

-- the same where the fifth rule holds too
pub record IsRead (bytes : List ℕ) (docs : List PlainNumbered) (end : ℕ) : Type 0 where
  pub found : IsFound bytes docs end
  pub numbers : wrong_number 20 docs ≡ None

-- one of the first six rules is the first that is broken
abbrev pub RefusesEarly : List ℕ → CodeError → Type 0
RefusesEarly bytes (Bad rule at) = first_six_broken bytes ≡ Some (rule, at)
RefusesEarly bytes Memory = Unit {0}

-- the segment of documents that were read, where the first six rules hold
pub record IsBuilt (bytes : List ℕ) (docs : List PlainNumbered) (end : ℕ)
    (segment : List PlainNumbered) : Type 0 where
  pub six : first_six_broken bytes ≡ None
  pub read : documents_read bytes ≡ reads docs end
  pub same : segment ≡ docs
