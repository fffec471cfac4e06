-- Held before, or added.
use Rattle.std.proofs.Common.{◌≡◌, ◌∙◌, ◌++◌, ◌∷◌, [], sym, ap, arith, inr, length, List, false}
use Rattle.std.proofs.Common.{Result, Ok, Err, IfOk, OnOk, get_or}
use Rattle.std.proofs.lemmas.List.{get_or_push, length_push}
use Rattle.sg_base.specs.declared.node.Edge.{Edge}
use Rattle.sg_base.specs.declared.node.NodeId.{NodeId}
use Rattle.sg_base.specs.Nodes.{same_edges, holds_same}
use Rattle.fst_build.specs.Building.{IsHeld}
use Rattle.sg_base.proofs.EqualNodes.{same_self}
use Rattle.fst_build.proofs.nodes.hold.Goals as goal

held_new : {E : Type 0} (old new : List (List Edge)) (node : List Edge) (r : Result NodeId E)
    → holds_same node old ≡ false → IfOk r (λ id. id.0 ≡ length old)
    → OnOk r (new ≡ old ++ node ∷ []) → IfOk r (λ id. IsHeld old new id.0 node)
held_new old new node (Ok id) absent i o =
    let l = ap (λ (m : List (List Edge)). length m) o in
    let p = length_push old node in
    let at : get_or new id.0 [] ≡ node =
    ap (λ (m : List (List Edge)). get_or m id.0 []) o ∙ get_or_push old node [] id.0 (sym i) in
    record {
      there =
          omega (arith, l, p, i);
      same =
          ap (λ (x : List Edge). same_edges x node) at ∙ same_self node;
      either = inr (o, i, absent);
    }
held_new old new node (Err e) absent i o = tt

pub returns-in-None-clause-ok : goal.returns-in-None-clause-ok
returns-in-None-clause-ok c =
    held_new c.args.register.now c.add.new.self c.args.node.now c.add.result c.in-None.ensures.none
    c.add.ensures.id c.add.ensures.ok
