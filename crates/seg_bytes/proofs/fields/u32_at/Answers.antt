-- A number of four bytes.
use Rattle.std.specs.Int.{w32}
use Rattle.seg_bytes.proofs.ReadingLemmas.{number_is}
use Rattle.seg_bytes.proofs.fields.u32_at.Goals as goal

pub returns : goal.returns
returns c =
    number_is w32 c.args.bytes.now c.args.at c.in_ok-value.field-0.value.now
    c.in_ok-value.field-0.end _ c.in_ok-value.ensures.value c.from_be_bytes.ensures
