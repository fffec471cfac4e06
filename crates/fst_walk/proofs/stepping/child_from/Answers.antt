-- The first child.
use Rattle.std.proofs.Common.{refl, sym, subst}
use Rattle.fst_code.specs.Transducers.{Rises}
use Rattle.fst_code.specs.Bytes.{nodes_of}
use Rattle.fst_walk.specs.Arcs.{is_from}
use Rattle.fst_walk.proofs.SpotLemmas.{found_step}
use Rattle.fst_walk.proofs.SpotLemmas.{spot_is}
use Rattle.fst_walk.proofs.ChildLemmas.{child_none, child_some}
use Rattle.fst_walk.proofs.stepping.child_from.Goals as goal

pub arc_from-requires : goal.arc_from-requires
arc_from-requires c =
    subst Rises (sym c.requires.view)
    (c.requires.sound.node c.args.spot.node.0 c.requires.spot.1.is_node).rises

pub spot_behind-requires-clause-cost : goal.spot_behind-requires-clause-cost
spot_behind-requires-clause-cost c =
    (found_step (is_from c.args.from) (nodes_of c.args.t.now) c.requires.sound c.requires.spot.0
    c.args.spot _
    c.in-Some.edge
    c.requires.view c.in-Some.ensures c.requires.spot.1).cost

pub spot_behind-requires-clause-ordinal : goal.spot_behind-requires-clause-ordinal
spot_behind-requires-clause-ordinal c =
    (found_step (is_from c.args.from) (nodes_of c.args.t.now) c.requires.sound c.requires.spot.0
    c.args.spot _
    c.in-Some.edge
    c.requires.view c.in-Some.ensures c.requires.spot.1).ordinal

pub returns-in-None : goal.returns-in-None
returns-in-None c = λ at is.
    child_none (nodes_of c.args.t.now) c.requires.sound at c.args.from c.args.spot _ is
    c.requires.view (sym c.in-None.ensures)

pub returns-in-Some : goal.returns-in-Some
returns-in-Some c = λ at is.
    child_some (nodes_of c.args.t.now) c.requires.sound at c.args.from c.args.spot _ c.in-Some.edge
    _ is c.requires.view
    (sym c.in-Some.ensures) refl
    (spot_is (nodes_of c.args.t.now) at c.in-Some.edge.label c.args.spot c.spot_behind.result
    c.in-Some.edge
    (found_step (is_from c.args.from) (nodes_of c.args.t.now) c.requires.sound at c.args.spot _
    c.in-Some.edge
    c.requires.view c.in-Some.ensures is)
    refl c.spot_behind.ensures.node c.spot_behind.ensures.cost c.spot_behind.ensures.ordinal)
