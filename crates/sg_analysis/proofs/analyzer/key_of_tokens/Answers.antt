-- No byte is joined exactly where there is no token; where none is reserved all may stand in a key.
use Rattle.std.proofs.Common.{arith}
use Rattle.std.proofs.lemmas.Bool.Decides.{nat_tests}
use Rattle.std.proofs.lemmas.Grind.{common_steps}
use Rattle.sg_analysis.proofs.KeyLemmas.{joined_text-key_bytes}
use Rattle.sg_analysis.proofs.TokenLemmas.{joined_tokens-empty}
use Rattle.sg_analysis.proofs.analyzer.key_of_tokens.Goals as goal

pub returns-then-is_empty-clause-given : goal.returns-then-is_empty-clause-given
returns-then-is_empty-clause-given c =
    rw (c.if-cut.true, ← joined_tokens-empty c.args.separators _, ← c.in_ok-joined.ensures)
    (grind (arith, nat_tests, common_steps))

pub key_of_joined-requires : goal.key_of_joined-requires
key_of_joined-requires c =
    rw c.in_ok-joined.ensures (joined_text-key_bytes c.args.separators _ c.utf8.folded c.requires)
