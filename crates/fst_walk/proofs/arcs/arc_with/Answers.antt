-- The arc with a label.
use Rattle.std.proofs.Common.{◌≡◌, ◌<◌, length, get_or, sym, ap}
use Rattle.std.proofs.Common.{◌∙◌, arith, Some, eq-eqb}
use Rattle.std.proofs.lemmas.Bool.{cases_lt}
use Rattle.sg_base.specs.declared.node.Edge.{Edge}
use Rattle.fst_code.specs.Views.{edges_of}
use Rattle.fst_walk.specs.Arcs.{has_that_label}
use Rattle.fst_walk.proofs.ArcLemmas.{find_here, find_nowhere, label_below, with_by, no_edge}
use Rattle.fst_walk.proofs.arcs.arc_with.Goals as goal

pub returns-then-at-len : goal.returns-then-at-len
returns-then-at-len c =
    sym (find_nowhere (has_that_label c.args.label) (edges_of c.args.node) no_edge (λ k h.
    label_below (get_or (edges_of c.args.node) k no_edge) c.args.label
    (c.arcs_below-at.ensures.below k no_edge (omega arith))))

pub returns-then-edge-label : goal.returns-then-edge-label
returns-then-edge-label c =
    let at = c.arcs_below-at.result in
    let e = c.edge-edge.ensures no_edge in
    let f = find_here (has_that_label c.args.label) (edges_of c.args.node) at no_edge (omega arith)
    (λ k h. label_below (get_or (edges_of c.args.node) k no_edge) c.args.label
    (c.arcs_below-at.ensures.below k no_edge h))
    (eq-eqb _ _ (ap (λ (x : Edge). x.label) (sym e) ∙ c.if-edge-label.true)) in
    ap (λ (x : Edge). Some x) e ∙ sym f

pub returns-else-edge-label : goal.returns-else-edge-label
returns-else-edge-label c =
    let at = c.arcs_below-at.result in
    let es = edges_of c.args.node in
    let e = c.edge-edge.ensures no_edge in
    let h : at < length es = omega arith in
    let from = c.arcs_below-at.ensures.from at no_edge (omega arith) h in
    let ne : c.edge-edge.result.label ≡ c.args.label → ⊥ = c.if-edge-label.false in
    let apart : c.args.label < (get_or es at no_edge).label =
    omega (arith, from, ne, ap (λ (x : Edge). x.label) e) in
    sym (find_nowhere (has_that_label c.args.label) es no_edge (λ k l.
    with_by es c.requires at c.args.label no_edge (λ j. c.arcs_below-at.ensures.below j no_edge) h
    apart k l (cases_lt k at)))
