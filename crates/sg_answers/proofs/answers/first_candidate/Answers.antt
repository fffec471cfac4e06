-- One suggestion further, what comes first of all is the same.
use Rattle.std.proofs.Common.{arith}
use Rattle.sg_answers.proofs.EntryLemmas.{first_entry-step}
use Rattle.sg_answers.proofs.answers.first_candidate.Goals as goal

pub loop-suggestion-preserved : goal.loop-suggestion-preserved
loop-suggestion-preserved c = (
  omega arith,
  first_entry-step c.args.query.now c.args.seq c.loop-suggestion.place
      c.loop-suggestion.suggestion-index c.args.suggestions.now c.suggestion-item.result
      c.loop-suggestion.first c.candidate_of.result c.sooner-first.result _
      c.loop-suggestion-test.true c.suggestion-item.is c.candidate_of.ensures
      c.sooner-first.ensures c.loop-suggestion.invariant.1,
)
