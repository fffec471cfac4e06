-- The first so far, and the first of the suggestions that are left.
use Rattle.std.proofs.Common.{◌≡◌, drop}
use Rattle.sg_base.specs.Ranking.{rank_cmp}
use Rattle.sg_answers.specs.Scans.{sooner, first_entry}
use Rattle.sg_answers.proofs.answers.first_candidate.Given as goal

abbrev pub invariant-loop-suggestion : goal.invariant-loop-suggestion
invariant-loop-suggestion l =
    (l.place ≡ l.suggestion-index)
    × (sooner rank_cmp l.first (first_entry l.query l.seq l.place
    (drop l.suggestion-index l.suggestions))
    ≡ first_entry l.query l.seq 0 l.suggestions)
