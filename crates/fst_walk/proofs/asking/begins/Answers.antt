use Rattle.std.proofs.Common.{◌∙◌}
use Rattle.sg_base.proofs.ByteStringLemmas.{starts_with-begins}
use Rattle.fst_walk.proofs.asking.begins.Goals as goal

pub returns : goal.returns
returns c = c.starts_with.ensures.value ∙ starts_with-begins c.args.bytes.now c.args.context.now
