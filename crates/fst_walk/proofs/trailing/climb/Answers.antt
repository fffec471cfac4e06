-- Up, and on.
use Rattle.std.proofs.Common.{◌≡◌, ◌+◌, ◌++◌, ◌∷◌, []}
use Rattle.std.proofs.Common.{sym, ap, ◌∙◌, subst, arith, get_or, take}
use Rattle.fst_code.specs.Bytes.{nodes_of}
use Rattle.fst_walk.specs.Arcs.{is_at_least}
use Rattle.fst_walk.specs.Spots.{IsSpot}
use Rattle.fst_walk.specs.Trails.{walked, ending}
use Rattle.fst_walk.specs.declared.spot.Spot.{Spot}
use Rattle.fst_walk.proofs.SpotLemmas.{found_step}
use Rattle.fst_walk.proofs.TrailLemmas.{arc_spot, pushed, popped}
use Rattle.fst_walk.proofs.EndingLemmas.{climbed, turned, root_ending}
use Rattle.fst_walk.proofs.trailing.climb.Goals as goal

pub node-view-requires : goal.node-view-requires
node-view-requires g c =
    let w = c.pop-label.new.self in
    let t = nodes_of c.args.t.now in
    let p = c.pop-label.ensures in
    let trail = popped t c.loop-trail.trail w c.loop-trail.invariant.trail p.len p.at p.frames in
    (subst (IsSpot t (walked w)) (sym (c.top-top.ensures c.top-top.result))
    (trail.spots w.len c.top-top.result (omega arith))).is_node

pub spot_behind-requires-clause-cost : goal.spot_behind-requires-clause-cost
spot_behind-requires-clause-cost g c =
    let w = c.pop-label.new.self in
    let t = nodes_of c.args.t.now in
    let p = c.pop-label.ensures in
    let trail = popped t c.loop-trail.trail w c.loop-trail.invariant.trail p.len p.at p.frames in
    let at : IsSpot t (walked w) c.top-top.result =
    subst (IsSpot t (walked w)) (sym (c.top-top.ensures c.top-top.result))
    (trail.spots w.len c.top-top.result (omega arith)) in
    (found_step (is_at_least (c.pop-label.result + 1)) t c.requires.sound (walked w)
    c.top-top.result _
    c.in-Some.edge c.node-view.ensures.node c.in-Some.ensures at).cost

pub spot_behind-requires-clause-ordinal : goal.spot_behind-requires-clause-ordinal
spot_behind-requires-clause-ordinal g c =
    let w = c.pop-label.new.self in
    let t = nodes_of c.args.t.now in
    let p = c.pop-label.ensures in
    let trail = popped t c.loop-trail.trail w c.loop-trail.invariant.trail p.len p.at p.frames in
    let at : IsSpot t (walked w) c.top-top.result =
    subst (IsSpot t (walked w)) (sym (c.top-top.ensures c.top-top.result))
    (trail.spots w.len c.top-top.result (omega arith)) in
    (found_step (is_at_least (c.pop-label.result + 1)) t c.requires.sound (walked w)
    c.top-top.result _
    c.in-Some.edge c.node-view.ensures.node c.in-Some.ensures at).ordinal

pub returns-in-Some-clause-moved : goal.returns-in-Some-clause-moved
returns-in-Some-clause-moved g c =
    let o = c.loop-trail.trail in
    let w = c.pop-label.new.self in
    let t = nodes_of c.args.t.now in
    let i = c.loop-trail.invariant in
    let p = c.pop-label.ensures in
    let b = c.spot_behind.ensures in
    let e = c.push.ensures in
    let l = c.pop-label.result in
    let trail = popped t o w i.trail p.len p.at p.frames in
    let at : IsSpot t (walked w) c.top-top.result =
    subst (IsSpot t (walked w)) (sym (c.top-top.ensures c.top-top.result))
    (trail.spots w.len c.top-top.result (omega arith)) in
    let next = arc_spot t c.requires.sound (walked w) (l + 1) c.top-top.result c.spot_behind.result
    _ c.in-Some.edge c.node-view.ensures.node c.in-Some.ensures b.node b.cost b.ordinal at in
    record {
      trail = pushed t c.requires.sound w c.push.new.self c.in-Some.edge.label c.spot_behind.result
          trail next e.len e.room e.bytes e.fronts e.top e.below;
      follows = λ d.
          let last : IsSpot t (walked w ++ l ∷ []) (get_or o.frames o.len d) =
          subst (λ z. IsSpot t z (get_or o.frames o.len d)) p.bytes
          (i.trail.spots o.len d (omega arith)) in
          let f = turned t c.requires.sound (walked w) l c.top-top.result (get_or o.frames o.len d)
          _ c.in-Some.edge at last c.node-view.ensures.node c.in-Some.ensures in
          ap (λ (s : Spot). s.ordinal) (e.top d) ∙ b.ordinal ∙ f ∙ i.ends d;
    }

pub loop-trail-preserved : goal.loop-trail-preserved
loop-trail-preserved g c =
    let o = c.loop-trail.trail in
    let w = c.pop-label.new.self in
    let t = nodes_of c.args.t.now in
    let i = c.loop-trail.invariant in
    let p = c.pop-label.ensures in
    let l = c.pop-label.result in
    let trail = popped t o w i.trail p.len p.at p.frames in
    let at : IsSpot t (walked w) c.top-top.result =
    subst (IsSpot t (walked w)) (sym (c.top-top.ensures c.top-top.result))
    (trail.spots w.len c.top-top.result (omega arith)) in
    record {
      trail = trail;
      bytes = p.at ∙ i.bytes;
      ends = λ d.
          let last : IsSpot t (walked w ++ l ∷ []) (get_or o.frames o.len d) =
          subst (λ z. IsSpot t z (get_or o.frames o.len d)) p.bytes
          (i.trail.spots o.len d (omega arith)) in
          let f = climbed t c.requires.sound (walked w) l c.top-top.result (get_or o.frames o.len d)
          _ at last c.node-view.ensures.node c.in_default.ensures in
          ap (ending t) (sym (c.top-top.ensures d)) ∙ f ∙ i.ends d;
    }

pub returns-clause-moved : goal.returns-clause-moved
returns-clause-moved g c = λ d.
    let w = c.loop-trail.trail in
    let i = c.loop-trail.invariant in
    let none : w.len ≡ 0 = omega arith in
    let at : IsSpot (nodes_of c.args.t.now) [] (get_or w.frames w.len d) =
    subst (λ n. IsSpot (nodes_of c.args.t.now) (take n w.bytes) (get_or w.frames w.len d)) none
    (i.trail.spots w.len d (omega arith)) in
    sym (i.ends d) ∙ root_ending (nodes_of c.args.t.now) c.requires.sound (get_or w.frames w.len d)
    at
