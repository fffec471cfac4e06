-- A step takes one token off the rest; at the end white space alone is left.
use Rattle.sg_analysis.proofs.TokenLemmas.{rest_is_text, continued_more, continued_end}
use Rattle.sg_analysis.proofs.joining.joined_tokens.Goals as goal

pub loop-token-preserved : goal.loop-token-preserved
loop-token-preserved c =
    let step = c.in-Some.ensures.steps in
    let now = c.loop-token.invariant in (
      rest_is_text _ _ _ _ now.0 step.1 step.3 step.4,
      rw c.in_ok-push_token.ensures
          (continued_more c.args.separators c.loop-token.out.items _ _ _ _ step.5.0 _
          now.0 step.1 step.3 step.4 step.2 step.5.1 now.1),
    )

pub returns : goal.returns
returns c =
    let step = c.in-None.ensures.steps in
    let now = c.loop-token.invariant in
    continued_end c.args.separators c.loop-token.out.items _ _ step.1 now.0 now.1
