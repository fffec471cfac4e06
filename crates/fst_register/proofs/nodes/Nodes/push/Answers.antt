-- The vectors grow together.
use Rattle.std.proofs.Common.{rules, ◌∙◌, ap, List, ◌++◌, ◌∷◌, []}
use Rattle.sg_base.specs.declared.node.Edge.{Edge}
use Rattle.fst_register.proofs.NodeListLemmas.{pushed}
use Rattle.fst_register.proofs.nodes.Nodes.push.Goals as goal

pub invariant_of-self-2 : goal.invariant_of-self-2
invariant_of-self-2 c =
    (pushed c.self.inside.ends.items c.self.inside.edges.items c.args.node.now c.len.result
    c.push_reserved.new.self.items c.extend_from_slice.new.self.items c.self.invariant
    (search (c.in_ok-extend_from_slice.ensures.items, rules)) (search rules)
    (search (c.in_ok-reserve.ensures.items, rules))).contiguous

pub returns-clause-ok : goal.returns-clause-ok
returns-clause-ok c =
    (pushed c.self.inside.ends.items c.self.inside.edges.items c.args.node.now c.len.result
    c.push_reserved.new.self.items c.extend_from_slice.new.self.items c.self.invariant
    (search (c.in_ok-extend_from_slice.ensures.items, rules)) (search rules)
    (search (c.in_ok-reserve.ensures.items, rules))).nodes_are
    ∙ ap (λ (nodes : List (List Edge)). nodes ++ c.args.node.now ∷ []) c.self.view_is
