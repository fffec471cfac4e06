-- What is out, continued by the tokens to come, is the whole.
use Rattle.std.proofs.Common.{◌≡◌, ◌++◌, length, ◌==◌, chars}
use Rattle.std.specs.Str.{IsUtf8}
use Rattle.sg_analysis.specs.Analysis.{tokens, joined_tokens}
use Rattle.sg_analysis.proofs.TokenLemmas.{continued}
use Rattle.sg_analysis.proofs.joining.joined_tokens.Given as goal

abbrev pub invariant-loop-token : goal.invariant-loop-token
invariant-loop-token l =
    let rest = l.token-iterator.rest.now in
    let more = continued l.separators (length l.out.items == 0) (tokens (chars rest)) in
    IsUtf8 rest × (l.out.items ++ more ≡ joined_tokens l.separators (tokens (chars l.text)))
