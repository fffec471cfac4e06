-- A number of one byte.
use Rattle.std.proofs.Common.{refl}
use Rattle.std.specs.Int.{w8}
use Rattle.seg_bytes.proofs.ReadingLemmas.{number_is}
use Rattle.seg_bytes.proofs.fields.u8_at.Goals as goal

pub returns : goal.returns
returns c =
    number_is w8 c.args.bytes.now c.args.at c.in_ok-part.part.value.now c.in_ok-part.part.end _
    c.in_ok-part.ensures.value refl
