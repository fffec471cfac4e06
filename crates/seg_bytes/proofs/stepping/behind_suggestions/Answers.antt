-- A step over one suggestion more.
use Rattle.std.proofs.Common.{◌<◌, ◌+◌, length, drop, get_or, arith}
use Rattle.seg_bytes.proofs.PackedLemmas.{some_suggestion}
use Rattle.seg_bytes.proofs.SteppingLemmas.{next_of}
use Rattle.seg_bytes.proofs.stepping.behind_suggestions.Goals as goal

pub behind_suggestion-rest-requires : goal.behind_suggestion-rest-requires
behind_suggestion-rest-requires c =
    let ss = c.requires.0 in
    let after = c.requires.1 in
    let i = c.loop.counter in
    let less : i < length ss = (let h = c.requires.2 in omega (arith, h)) in (
      get_or ss i some_suggestion,
      drop (i + 1) ss,
      after,
      next_of ss i some_suggestion after c.loop.rest.now less
          (c.loop.invariant ss after c.requires.2 c.requires.3),
    )

pub loop-preserved : goal.loop-preserved
loop-preserved c = λ ss after many begins.
    let i = c.loop.counter in
    let less : i < length ss = omega (arith, many) in
    c.behind_suggestion-rest.ensures (get_or ss i some_suggestion) (drop (i + 1) ss) after
    (next_of ss i some_suggestion after c.loop.rest.now less
    (c.loop.invariant ss after many begins))
