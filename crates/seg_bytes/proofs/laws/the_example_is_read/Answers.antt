-- The format's example, by computing.
use Rattle.std.proofs.Common.{refl}
use Rattle.std.specs.Str.{is_utf8, chars}
use lib.Utf8.{encode}
use Rattle.seg_bytes.specs.Fields.{part_at, number_at, text_at, tested, many_at}
use Rattle.seg_bytes.specs.DocumentBytes.{suggestion_bytes, document_bytes}
use Rattle.seg_bytes.specs.DocumentsRead.{suggestion_at, document_at}
use Rattle.seg_bytes.specs.Numbers.{wrong_number_after}
use Rattle.seg_bytes.proofs.laws.the_example_is_read.Goals as goal

pub returns : goal.returns
unfolding part_at number_at text_at tested many_at suggestion_bytes document_bytes suggestion_at
    document_at wrong_number_after is_utf8 chars encode
returns c = record {
  bytes = refl;
  read = refl;
  id = refl;
  missing = refl;
  rises = refl;
  repeats = refl;
}
