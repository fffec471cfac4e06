-- What is collected is the first characters of the text.
use Rattle.std.proofs.Common.{rules}
use Rattle.std.proofs.lemmas.Iterator.{YieldsList-from_chars, YieldsList-from_take}
use Rattle.std.proofs.lemmas.Iterator.{text_from_collect}
use Rattle.sg_analysis.proofs.folding.front_of.Goals as goal

pub returns : goal.returns
returns c =
    let all = YieldsList-from_chars c.args.text.now (search rules) cc in
    text_from_collect _ c.collect.ensures.ran (YieldsList-from_take _ all c.take.ensures.count)
