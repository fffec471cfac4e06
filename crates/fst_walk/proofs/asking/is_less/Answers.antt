-- The order of slices is the order of bytes.
use Rattle.std.proofs.Common.{ap, ◌∙◌, Ordering}
use Rattle.std.specs.Ordering.{is_lt}
use Rattle.sg_base.proofs.ByteStringLemmas.{slice-less}
use Rattle.fst_walk.proofs.asking.is_less.Goals as goal

pub returns : goal.returns
returns c = c.is_lt.ensures ∙ ap (λ (o : Ordering). is_lt o) c.cmp.ensures
    ∙ slice-less c.args.first.now c.args.second.now
