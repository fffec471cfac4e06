-- A step over one context more.
use Rattle.std.proofs.Common.{◌<◌, ◌≤◌, ◌+◌, ◌++◌, [], length, drop, get_or, arith}
use Rattle.std.specs.List.{flat_map}
use Rattle.seg_bytes.specs.DocumentBytes.{short_bytes}
use Rattle.seg_bytes.proofs.SteppingLemmas.{first_of, none_of}
use Rattle.seg_bytes.proofs.stepping.behind_contexts.Goals as goal

pub short-requires : goal.short-requires
short-requires c =
    let cs = c.requires.0 in
    let after = c.requires.1 in
    let i = c.loop.counter in
    let less : i < length cs = (let h = c.requires.2 in omega (arith, h)) in (
      get_or cs i [],
      flat_map short_bytes (drop (i + 1) cs) ++ after,
      first_of short_bytes cs i [] after c.loop.rest.now less
          (c.loop.invariant cs after c.requires.2 c.requires.3),
    )

pub loop-preserved : goal.loop-preserved
loop-preserved c = λ cs after many whole.
    let i = c.loop.counter in
    let less : i < length cs = omega (arith, many) in
    c.short.ensures.rest (get_or cs i []) (flat_map short_bytes (drop (i + 1) cs) ++ after)
    (first_of short_bytes cs i [] after c.loop.rest.now less (c.loop.invariant cs after many whole))

pub returns : goal.returns
returns c = λ cs after many whole.
    let over : length cs ≤ c.loop.counter = omega (arith, many) in
    none_of short_bytes cs c.loop.counter after c.loop.rest.now over
    (c.loop.invariant cs after many whole)
