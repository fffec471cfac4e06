-- A number of two bytes.
use Rattle.std.specs.Int.{w16}
use Rattle.seg_bytes.proofs.ReadingLemmas.{number_is}
use Rattle.seg_bytes.proofs.fields.u16_at.Goals as goal

pub returns : goal.returns
returns c =
    number_is w16 c.args.bytes.now c.args.at c.in_ok-value.field-0.value.now
    c.in_ok-value.field-0.end _ c.in_ok-value.ensures.value c.from_be_bytes.ensures
