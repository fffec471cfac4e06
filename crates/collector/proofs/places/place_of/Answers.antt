-- The last before the place stands before the hit.
use Rattle.std.proofs.Common.{rules, sym, ◌∙◌, ◌≡◌, true, map, length, ◌≤◌, arith}
use Rattle.collector.specs.Hits.{row_of}
use Rattle.collector.proofs.ListLemmas.{map-length}
use Rattle.collector.proofs.PlaceLemmas.{is_place}
use Rattle.collector.proofs.places.place_of.Goals as goal

pub returns-else-not-is_before_at-clause-place : goal.returns-else-not-is_before_at-clause-place
returns-else-not-is_before_at-clause-place g c =
    let yes : c.is_before_at.result ≡ true = search rules in
    let n = map-length (row_of (g.K.Keys.key_of c.args.keys.now)) c.args.hits.now in
    let low = c.loop-at.invariant.0 in
    let within : c.loop-at.at ≤ length
    (map (row_of (g.K.Keys.key_of c.args.keys.now)) c.args.hits.now) = omega (arith, n, low) in
    is_place (row_of (g.K.Keys.key_of c.args.keys.now) c.args.hit.now)
    (map (row_of (g.K.Keys.key_of c.args.keys.now)) c.args.hits.now) c.loop-at.at
    c.requires.kept.ascending within (λ d l. sym (c.is_before_at.ensures d) ∙ yes)
    c.loop-at.invariant.1
