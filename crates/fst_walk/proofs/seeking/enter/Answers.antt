-- One label on.
use Rattle.std.proofs.Common.{◌≡◌, [], ℕ, List, sym}
use Rattle.std.proofs.Common.{ap, ◌∙◌, subst, get_or}
use Rattle.std.proofs.Common.{Some}
use Rattle.std.specs.List.{find}
use Rattle.std.proofs.lemmas.Bool.{eqb-true}
use Rattle.sg_base.specs.declared.node.Edge.{Edge}
use Rattle.fst_code.specs.Transducers.{IsTransducer, Rises}
use Rattle.fst_code.specs.Bytes.{nodes_of}
use Rattle.fst_walk.specs.Arcs.{has_that_label}
use Rattle.fst_walk.proofs.SpotLemmas.{found_step}
use Rattle.fst_walk.proofs.SpotLemmas.{no_step, spot_is}
use Rattle.fst_walk.proofs.ArcLemmas.{find_split}
use Rattle.fst_walk.proofs.seeking.enter.Goals as goal

pub arc_with-requires : goal.arc_with-requires
arc_with-requires g c =
    let s : IsTransducer (nodes_of c.args.t.now) = c.node-node.ensures.sound in
    subst Rises (sym c.node-node.ensures.node)
    (s.node c.args.spot.node.0 c.requires.1.is_node).rises

-- the arc that was found, in the transducer's node
found : (nodes : List (List Edge)) (l n : ℕ) (es : List Edge) (a : Edge) → es ≡ get_or nodes n []
    → Some a ≡ find (has_that_label l) es → find (has_that_label l) (get_or nodes n []) ≡ Some a
found nodes l n es a e f = ap (find (has_that_label l)) (sym e) ∙ sym f

pub spot_behind-requires-clause-cost : goal.spot_behind-requires-clause-cost
spot_behind-requires-clause-cost g c =
    (found_step (has_that_label c.args.label) (nodes_of c.args.t.now) c.node-node.ensures.sound
    c.requires.0 c.args.spot
    _ c.in-Some.edge
    c.node-node.ensures.node c.in-Some.ensures c.requires.1).cost

pub spot_behind-requires-clause-ordinal : goal.spot_behind-requires-clause-ordinal
spot_behind-requires-clause-ordinal g c =
    (found_step (has_that_label c.args.label) (nodes_of c.args.t.now) c.node-node.ensures.sound
    c.requires.0 c.args.spot
    _ c.in-Some.edge
    c.node-node.ensures.node c.in-Some.ensures c.requires.1).ordinal

pub returns-in-None-clause-spot : goal.returns-in-None-clause-spot
returns-in-None-clause-spot g c = λ bytes at.
    no_step (nodes_of c.args.t.now) c.node-node.ensures.sound bytes c.args.label c.args.spot.node.0
    c.args.spot.cost
    c.args.spot.ordinal at.is_node
    (ap (find (has_that_label c.args.label)) (sym c.node-node.ensures.node) ∙ sym c.in-None.ensures)
    at.meets

pub returns-in-Some-clause-spot : goal.returns-in-Some-clause-spot
returns-in-Some-clause-spot g c = λ bytes at.
    let f = found (nodes_of c.args.t.now) c.args.label c.args.spot.node.0 _ c.in-Some.edge
    c.node-node.ensures.node c.in-Some.ensures in
    spot_is (nodes_of c.args.t.now) bytes c.args.label c.args.spot c.spot_behind.result
    c.in-Some.edge
    (found_step (has_that_label c.args.label) (nodes_of c.args.t.now) c.node-node.ensures.sound
    bytes c.args.spot _
    c.in-Some.edge c.node-node.ensures.node c.in-Some.ensures at)
    (eqb-true _ _ (find_split (has_that_label c.args.label) _ c.in-Some.edge f).test)
    c.spot_behind.ensures.node c.spot_behind.ensures.cost c.spot_behind.ensures.ordinal
