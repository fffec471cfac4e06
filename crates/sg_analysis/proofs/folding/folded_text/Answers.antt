-- With the cut, what is folded is the front.
use Rattle.std.proofs.Common.{◌∙◌}
use Rattle.sg_analysis.specs.Analysis.{folded_characters}
use Rattle.sg_analysis.proofs.TextLemmas.{chars-encoded}
use Rattle.sg_analysis.proofs.folding.folded_text.Goals as goal

pub returns-in_ok-front : goal.returns-in_ok-front
unfolding folded_characters
returns-in_ok-front c =
    let is = c.as_str.ensures.value ∙ c.in_ok-front.ensures in
    rw (c.if-cut.true, ← chars-encoded _ _ c.as_str.utf8 is) c.normalize_and_fold.ensures

pub returns-else-cut : goal.returns-else-cut
unfolding folded_characters
returns-else-cut c = rw c.if-cut.false c.normalize_and_fold-else-cut.ensures
