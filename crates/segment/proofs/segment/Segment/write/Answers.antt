-- The bytes are written with the transducer's own.
use Rattle.std.proofs.Common.{◌≡◌, ℕ, List, ◌∙◌}
use Rattle.sg_paths.specs.Operations.{PlainNumbered}
use Rattle.segment.specs.Represents.{IsTextOf}
use Rattle.segment.specs.SegmentBytes.{IsWritten, segment_bytes}
use Rattle.segment.proofs.segment.Segment.write.Goals as goal

is_written : (docs : List PlainNumbered) (text bytes : List ℕ) → IsTextOf docs text
    → bytes ≡ segment_bytes docs text → IsWritten docs bytes
is_written docs text bytes given whole = record { text = text; given = given; whole = whole }

pub returns : goal.returns
returns c =
    let given = c.text.ensures in
    rw (← c.self.view_is) (is_written c.self.inside.table c.text.result.now
    c.from_vec.result.items (rw (← c.self.view_is) at given)
    (c.from_vec.ensures.items ∙ c.in_ok-written.ensures))
