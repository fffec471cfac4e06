-- The folded text is the UTF-8 of its characters.
use Rattle.std.proofs.Common.{refl}
use Rattle.std.proofs.lemmas.Str.{encodes-chars}
use Rattle.sg_analysis.proofs.analyzer.key_of_folded.Goals as goal

pub returns-in-Some-clause-given : goal.returns-in-Some-clause-given
returns-in-Some-clause-given c =
    let same = c.as_bytes-bytes.ensures.value in
    let first = rw same at c.in-Some.ensures.first in
    rw (encodes-chars _ c.utf8.folded, ← first, same, c.saturated_u32.ensures) (λ _. refl)

pub returns-in-None-clause-given : goal.returns-in-None-clause-given
returns-in-None-clause-given c =
    let first = rw c.as_bytes-bytes.ensures.value at c.in-None.ensures.first in
    rw (encodes-chars _ c.utf8.folded, ← first) c.key_of_tokens.ensures.given
