-- The first arc with at least a label.
use Rattle.std.proofs.Common.{◌≡◌, ◌<◌, ◌+◌, length, get_or, sym, ap}
use Rattle.std.proofs.Common.{◌∙◌, arith, Some}
use Rattle.sg_base.specs.declared.node.Edge.{Edge}
use Rattle.fst_code.specs.Views.{edges_of}
use Rattle.fst_walk.specs.Arcs.{is_from}
use Rattle.fst_walk.proofs.ArcLemmas.{find_here, find_nowhere, from_below, from_here}
use Rattle.fst_walk.proofs.ArcLemmas.{rises_at, no_edge, not_yet}
use Rattle.fst_walk.proofs.arcs.arc_from.Goals as goal

pub returns-then-at-len : goal.returns-then-at-len
returns-then-at-len c =
    sym (find_nowhere (is_from c.args.label) (edges_of c.args.node) no_edge (λ k h.
    from_below (get_or (edges_of c.args.node) k no_edge) c.args.label
    (c.arcs_below-at.ensures.below k no_edge (omega arith))))

pub returns-then-edge-ne-CONTEXT_END : goal.returns-then-edge-ne-CONTEXT_END
returns-then-edge-ne-CONTEXT_END c =
    let at = c.arcs_below-at.result in
    let es = edges_of c.args.node in
    let e = c.edge-edge.ensures no_edge in
    let h : at < length es = omega arith in
    let ne : c.edge-edge.result.label ≡ 29 → ⊥ = c.if-edge-ne-CONTEXT_END.true in
    let f = find_here (is_from c.args.label) es at no_edge h
    (λ k l. from_below (get_or es k no_edge) c.args.label
    (c.arcs_below-at.ensures.below k no_edge l))
    (from_here (get_or es at no_edge) c.args.label
    (c.arcs_below-at.ensures.from at no_edge (omega arith) h)
    (λ is. ne (ap (λ (x : Edge). x.label) e ∙ is))) in
    ap (λ (x : Edge). Some x) e ∙ sym f

pub returns-then-at-len-2 : goal.returns-then-at-len-2
returns-then-at-len-2 c =
    let at = c.arcs_below-at.result in
    let es = edges_of c.args.node in
    let e = c.edge-edge.ensures no_edge in
    let is : (get_or es at no_edge).label ≡ 29 =
    ap (λ (x : Edge). x.label) (sym e) ∙ c.if-edge-ne-CONTEXT_END.false in
    sym (find_nowhere (is_from c.args.label) es no_edge (λ k h.
    not_yet es at c.args.label k (λ j. c.arcs_below-at.ensures.below j no_edge) is (omega arith)))

pub returns : goal.returns
returns c =
    let at = c.arcs_below-at.result in
    let es = edges_of c.args.node in
    let e = c.edge-edge.ensures no_edge in
    let is : (get_or es at no_edge).label ≡ 29 =
    ap (λ (x : Edge). x.label) (sym e) ∙ c.if-edge-ne-CONTEXT_END.false in
    let h : at + 1 < length es = omega arith in
    let more = rises_at es c.requires at (at + 1) no_edge (omega arith) h in
    let from = c.arcs_below-at.ensures.from at no_edge (omega arith) (omega arith) in
    let n = c.edge.ensures no_edge in
    let f = find_here (is_from c.args.label) es (at + 1) no_edge h
    (λ k l. not_yet es at c.args.label k (λ j. c.arcs_below-at.ensures.below j no_edge) is l)
    (from_here (get_or es (at + 1) no_edge) c.args.label (omega (arith, from, more))
    (λ k. omega (arith, k, more, is))) in
    ap (λ (x : Edge). Some x) n ∙ sym f
