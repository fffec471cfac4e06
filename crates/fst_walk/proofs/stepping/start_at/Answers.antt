-- The start at a context.
use Rattle.std.proofs.Common.{◌≡◌, ◌+◌, ◌++◌, ◌∷◌, [], false, true, ℕ, List}
use Rattle.std.proofs.Common.{sym, ap, ◌∙◌, subst, get_or, Some, None, append_assoc}
use Rattle.std.proofs.Common.{MatchOption}
use Rattle.std.specs.List.{find}
use Rattle.std.proofs.lemmas.Bool.{eqb-true}
use Rattle.sg_base.specs.declared.node.Edge.{Edge}
use Rattle.fst_code.specs.Lists.{root_paths}
use Rattle.fst_code.specs.Transducers.{IsTransducer, Rises}
use Rattle.fst_code.specs.Bytes.{nodes_of}
use Rattle.fst_walk.specs.Arcs.{has_that_label}
use Rattle.fst_walk.specs.Fronts.{is_front}
use Rattle.fst_walk.specs.Spots.{IsSpot}
use Rattle.fst_walk.specs.declared.spot.Spot.{Spot}
use Rattle.fst_walk.proofs.SpotLemmas.{found_step}
use Rattle.fst_walk.proofs.SpotLemmas.{spot_is, no_step}
use Rattle.fst_walk.proofs.ArcLemmas.{find_split}
use Rattle.fst_walk.proofs.FrontLemmas.{front_longer}
use Rattle.fst_walk.proofs.ChildLemmas.{label_front}
use Rattle.fst_walk.proofs.stepping.start_at.Goals as goal

pub arc_with-requires : goal.arc_with-requires
arc_with-requires g c =
    subst Rises (sym c.requires.view)
    (c.requires.sound.node c.args.spot.node.0 c.requires.spot.1.is_node).rises

pub spot_behind-requires-clause-cost : goal.spot_behind-requires-clause-cost
spot_behind-requires-clause-cost g c =
    (found_step (has_that_label 29) (nodes_of c.args.t.now) c.requires.sound c.requires.spot.0
    c.args.spot _ c.in-Some.edge
    c.requires.view c.in-Some.ensures c.requires.spot.1).cost

pub spot_behind-requires-clause-ordinal : goal.spot_behind-requires-clause-ordinal
spot_behind-requires-clause-ordinal g c =
    (found_step (has_that_label 29) (nodes_of c.args.t.now) c.requires.sound c.requires.spot.0
    c.args.spot _ c.in-Some.edge
    c.requires.view c.in-Some.ensures c.requires.spot.1).ordinal

next_spot : (nodes : List (List Edge)) → IsTransducer nodes
    → (at : List ℕ) (spot next : Spot) (es : List Edge)
    (a : Edge) → es ≡ get_or nodes spot.node.0 [] → Some a ≡ find (has_that_label 29) es
    → next.node.0 ≡ a.target.0 → next.cost ≡ spot.cost + a.cost
    → next.ordinal ≡ spot.ordinal + a.before
    → IsSpot nodes at spot → IsSpot nodes (at ++ 29 ∷ []) next
next_spot nodes s at spot next es a e h n k o is =
    spot_is nodes at 29 spot next a (found_step (has_that_label 29) nodes s at spot es a e h is)
    (eqb-true _ _ (find_split (has_that_label 29) es a (sym h)).test) n k o

pub go-requires : goal.go-requires
go-requires g c = (
  c.requires.spot.0 ++ 29 ∷ [],
  next_spot (nodes_of c.args.t.now) c.requires.sound c.requires.spot.0 c.args.spot
      c.spot_behind.result _ c.in-Some.edge
      c.requires.view c.in-Some.ensures c.spot_behind.ensures.node c.spot_behind.ensures.cost
      c.spot_behind.ensures.ordinal
      c.requires.spot.1,
)

never : (nodes : List (List Edge)) → IsTransducer nodes
    → (at prefix : List ℕ) (spot : Spot) (es : List Edge)
    → es ≡ get_or nodes spot.node.0 [] → None ≡ find (has_that_label 29) es → IsSpot nodes at spot
    → is_front (root_paths nodes) (at ++ 29 ∷ prefix) ≡ false
never nodes s at prefix spot es e h is =
    let n = no_step nodes s at 29 spot.node.0 spot.cost spot.ordinal is.is_node
    (ap (find (has_that_label 29)) (sym e) ∙ sym h) is.meets in
    ap (is_front (root_paths nodes)) (sym (append_assoc at (29 ∷ []) prefix))
    ∙ front_longer (root_paths nodes) (at ++ 29 ∷ []) prefix n

pub returns-in-None-clause-spot : goal.returns-in-None-clause-spot
returns-in-None-clause-spot g c = λ at is.
    never (nodes_of c.args.t.now) c.requires.sound at c.args.prefix.now c.args.spot _
    c.requires.view c.in-None.ensures is

pub returns-in-Some-clause-spot : goal.returns-in-Some-clause-spot
returns-in-Some-clause-spot g c = λ at is.
    let r = c.go.ensures.spot (at ++ 29 ∷ [])
    (next_spot (nodes_of c.args.t.now) c.requires.sound at c.args.spot c.spot_behind.result _
    c.in-Some.edge
    c.requires.view c.in-Some.ensures c.spot_behind.ensures.node c.spot_behind.ensures.cost
    c.spot_behind.ensures.ordinal is) in
    subst (λ p. MatchOption c.go.result (is_front (root_paths (nodes_of c.args.t.now)) p ≡ false)
    (λ s. IsSpot (nodes_of c.args.t.now) p s))
    (append_assoc at (29 ∷ []) c.args.prefix.now) r

pub returns-in-Some-clause-ticks : goal.returns-in-Some-clause-ticks
returns-in-Some-clause-ticks g c = λ at is.
    let f : is_front (root_paths (nodes_of c.args.t.now)) (at ++ 29 ∷ []) ≡ true =
    label_front (nodes_of c.args.t.now) c.requires.sound at 29 c.args.spot _ c.in-Some.edge is
    c.requires.view (sym c.in-Some.ensures) in
    rw f (c.go.ensures.ticks)
