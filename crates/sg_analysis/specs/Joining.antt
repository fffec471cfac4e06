-- How tokens are joined one after another. Source: this project's own. No public clause cites it.
use Rattle.std.specs.Prelude.{ℕ, Bool, true, false, List, []}
use Rattle.sg_analysis.specs.Analysis.{separator}

-- what stands in front of a token, which may be the first
abbrev pub lead : Bool → Bool → List ℕ
lead separators true = []
lead separators false = separator separators
