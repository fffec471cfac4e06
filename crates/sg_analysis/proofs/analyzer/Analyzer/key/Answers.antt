-- The characters of the folded text.
use Rattle.std.proofs.Common.{◌∙◌}
use Rattle.sg_analysis.proofs.TextLemmas.{chars-encoded}
use Rattle.sg_analysis.proofs.analyzer.Analyzer.key.Goals as goal

pub returns-clause-given : goal.returns-clause-given
returns-clause-given c =
    let is = c.as_str.ensures.value ∙ c.in_ok-folded.ensures in
    rw (← chars-encoded _ _ c.as_str.utf8 is) c.key_of_folded.ensures.given
