-- The number of the limit of a search. Source: Lucene's NRTSuggester, whose queue is bounded so.
use Rattle.std.specs.Prelude.{◌≡◌}
use Rattle.sg_answers.specs.declared.limits.TheConstants.{MOST_QUEUED}

-- each constant is the number of its limit
pub record AreLimits : Type 0 where
  pub queued : MOST_QUEUED ≡ 5000
