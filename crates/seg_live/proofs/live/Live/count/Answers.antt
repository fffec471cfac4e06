-- Without bits, all are counted.
use Rattle.std.proofs.Common.{sym, ap, ◌∙◌}
use Rattle.seg_live.specs.LiveDocs.{live_count}
use Rattle.seg_live.specs.Bits.{bits_or_all}
use Rattle.seg_live.proofs.BitLemmas.{count_all}
use Rattle.seg_live.proofs.live.Live.count.Goals as goal

pub returns-in-None : goal.returns-in-None
returns-in-None c =
    sym (count_all c.self.inside.len)
    ∙ ap (λ bits. live_count (bits_or_all c.self.inside.len bits)) (sym c.in-None.is)
    ∙ ap live_count c.self.view_is
