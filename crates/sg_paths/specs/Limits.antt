-- The numbers of the limits of suggestions, documents and segments. Source: this project's own.
use Rattle.std.specs.Prelude.{◌≡◌}
use Rattle.sg_paths.specs.declared.limits.TheConstants.{MOST_TEXT_BYTES, MOST_CONTEXTS}
use Rattle.sg_paths.specs.declared.limits.TheConstants.{MOST_ID_BYTES, MOST_SUGGESTIONS}
use Rattle.sg_paths.specs.declared.limits.TheConstants.{MOST_SEGMENT_DOCUMENTS}
use Rattle.sg_paths.specs.declared.limits.TheConstants.{MOST_SEGMENT_PATHS}

-- each constant is the number of its limit
pub record AreLimits : Type 0 where
  pub text_bytes : MOST_TEXT_BYTES ≡ 1024
  pub contexts : MOST_CONTEXTS ≡ 16
  pub id_bytes : MOST_ID_BYTES ≡ 255
  pub suggestions : MOST_SUGGESTIONS ≡ 16
  pub segment_documents : MOST_SEGMENT_DOCUMENTS ≡ 1048576
  pub segment_paths : MOST_SEGMENT_PATHS ≡ 4194304
