-- Down by the first arcs.
use Rattle.std.proofs.Common.{sym, ap, ◌∙◌, subst, arith}
use Rattle.fst_code.specs.Bytes.{nodes_of}
use Rattle.fst_walk.specs.Arcs.{is_at_least}
use Rattle.fst_walk.specs.Spots.{IsSpot}
use Rattle.fst_walk.specs.Trails.{walked}
use Rattle.fst_walk.specs.declared.spot.Spot.{Spot}
use Rattle.fst_walk.proofs.SpotLemmas.{found_step}
use Rattle.fst_walk.proofs.TrailLemmas.{arc_spot, pushed, step_fits, first_before}
use Rattle.fst_walk.proofs.TrailLemmas.{ends_at}
use Rattle.fst_walk.proofs.trailing.descend.Goals as goal

pub returns-in-None : goal.returns-in-None
returns-in-None g c =
    let i = c.loop-edge.invariant in
    let w = c.loop-edge.trail in
    record {
      trail = i.trail;
      at_end = λ d. let at : IsSpot (nodes_of c.args.t.now) (walked w) c.top-top.result =
          subst (IsSpot (nodes_of c.args.t.now) (walked w))
          (sym (c.top-top.ensures c.top-top.result))
          (i.trail.spots w.len c.top-top.result (omega arith)) in
          ap (λ (s : Spot). s.node.0) (sym (c.top-top.ensures d))
          ∙ ends_at (nodes_of c.args.t.now) c.requires.sound c.top-top.result.node.0 _ at.is_node
          c.node-view.ensures.node c.in-None.ensures;
      first = i.first;
    }

pub spot_behind-requires-clause-cost : goal.spot_behind-requires-clause-cost
spot_behind-requires-clause-cost g c =
    let w = c.loop-edge.trail in
    let at : IsSpot (nodes_of c.args.t.now) (walked w) c.top-top.result =
    subst (IsSpot (nodes_of c.args.t.now) (walked w)) (sym (c.top-top.ensures c.top-top.result))
    (c.loop-edge.invariant.trail.spots w.len c.top-top.result (omega arith)) in
    (found_step (is_at_least 0) (nodes_of c.args.t.now) c.requires.sound (walked w) c.top-top.result
    _
    c.in-Some.edge c.node-view.ensures.node c.in-Some.ensures at).cost

pub spot_behind-requires-clause-ordinal : goal.spot_behind-requires-clause-ordinal
spot_behind-requires-clause-ordinal g c =
    let w = c.loop-edge.trail in
    let at : IsSpot (nodes_of c.args.t.now) (walked w) c.top-top.result =
    subst (IsSpot (nodes_of c.args.t.now) (walked w)) (sym (c.top-top.ensures c.top-top.result))
    (c.loop-edge.invariant.trail.spots w.len c.top-top.result (omega arith)) in
    (found_step (is_at_least 0) (nodes_of c.args.t.now) c.requires.sound (walked w) c.top-top.result
    _
    c.in-Some.edge c.node-view.ensures.node c.in-Some.ensures at).ordinal

pub push-requires : goal.push-requires
push-requires g c =
    let w = c.loop-edge.trail in
    let t = nodes_of c.args.t.now in
    let b = c.spot_behind.ensures in
    let at : IsSpot t (walked w) c.top-top.result =
    subst (IsSpot t (walked w)) (sym (c.top-top.ensures c.top-top.result))
    (c.loop-edge.invariant.trail.spots w.len c.top-top.result (omega arith)) in
    step_fits t c.requires.sound w c.loop-edge.invariant.trail c.in-Some.edge.label
    c.spot_behind.result
    (arc_spot t c.requires.sound (walked w) 0 c.top-top.result c.spot_behind.result _ c.in-Some.edge
    c.node-view.ensures.node c.in-Some.ensures b.node b.cost b.ordinal at)

pub loop-edge-smaller : goal.loop-edge-smaller
loop-edge-smaller g c =
    let w = c.loop-edge.trail in
    let t = nodes_of c.args.t.now in
    let b = c.spot_behind.ensures in
    let d : Spot = record { node = record { 0 = 0 }; cost = 0; ordinal = 0 } in
    let at : IsSpot t (walked w) c.top-top.result =
    subst (IsSpot t (walked w)) (sym (c.top-top.ensures c.top-top.result))
    (c.loop-edge.invariant.trail.spots w.len c.top-top.result (omega arith)) in
    let f = first_before t c.requires.sound c.top-top.result.node.0 _ c.in-Some.edge at.is_node
    c.node-view.ensures.node c.in-Some.ensures in
    let m = ap (λ (s : Spot). s.node.0) (c.push.ensures.top d) in
    let n = ap (λ (s : Spot). s.node.0) (c.top-top.ensures d) in
    omega (arith, f.1, m, n, b.node)

pub loop-edge-preserved : goal.loop-edge-preserved
loop-edge-preserved g c =
    let i = c.loop-edge.invariant in
    let w = c.loop-edge.trail in
    let t = nodes_of c.args.t.now in
    let b = c.spot_behind.ensures in
    let e = c.push.ensures in
    let at : IsSpot t (walked w) c.top-top.result =
    subst (IsSpot t (walked w)) (sym (c.top-top.ensures c.top-top.result))
    (i.trail.spots w.len c.top-top.result (omega arith)) in
    let next = arc_spot t c.requires.sound (walked w) 0 c.top-top.result c.spot_behind.result _
    c.in-Some.edge c.node-view.ensures.node c.in-Some.ensures b.node b.cost b.ordinal at in
    let f = first_before t c.requires.sound c.top-top.result.node.0 _ c.in-Some.edge at.is_node
    c.node-view.ensures.node c.in-Some.ensures in
    record {
      trail = pushed t c.requires.sound w c.push.new.self c.in-Some.edge.label c.spot_behind.result
          i.trail next e.len e.room e.bytes e.fronts e.top e.below;
      first = λ d.
          let m = ap (λ (s : Spot). s.ordinal) (e.top d) in
          let n = ap (λ (s : Spot). s.ordinal) (c.top-top.ensures d) in
          let k = i.first d in
          omega (arith, f.0, m, n, b.ordinal, k);
    }
