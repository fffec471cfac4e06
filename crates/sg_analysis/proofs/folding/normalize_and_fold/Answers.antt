-- What is folded is the NFKC form.
use Rattle.std.proofs.Common.{◌∙◌}
use Rattle.sg_analysis.proofs.TextLemmas.{chars-encoded}
use Rattle.sg_analysis.proofs.folding.normalize_and_fold.Goals as goal

pub returns : goal.returns
returns c =
    let is = c.as_str.ensures.value ∙ c.in_ok-normalized.ensures in
    rw (← chars-encoded _ _ c.as_str.utf8 is) assumption
