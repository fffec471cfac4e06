-- The first arc with at least a label.
use Rattle.std.proofs.Common.{◌<◌, length, get_or, sym, ap, ◌∙◌, arith}
use Rattle.std.proofs.Common.{Some}
use Rattle.std.proofs.lemmas.Bool.{lt-leb, le-leb}
use Rattle.sg_base.specs.declared.node.Edge.{Edge}
use Rattle.fst_code.specs.Views.{edges_of}
use Rattle.fst_walk.specs.Arcs.{is_at_least}
use Rattle.fst_walk.proofs.ArcLemmas.{find_here, find_nowhere, no_edge}
use Rattle.fst_walk.proofs.arcs.arc_at_least.Goals as goal

pub returns-then-at-len : goal.returns-then-at-len
returns-then-at-len c =
    sym (find_nowhere (is_at_least c.args.label) (edges_of c.args.node) no_edge (λ k h.
    lt-leb c.args.label _ (c.arcs_below-at.ensures.below k no_edge (omega arith))))

pub returns : goal.returns
returns c =
    let at = c.arcs_below-at.result in
    let es = edges_of c.args.node in
    let e = c.edge.ensures no_edge in
    let h : at < length es = omega arith in
    let f = find_here (is_at_least c.args.label) es at no_edge h
    (λ k l. lt-leb c.args.label (get_or es k no_edge).label
    (c.arcs_below-at.ensures.below k no_edge l))
    (le-leb c.args.label (get_or es at no_edge).label
    (c.arcs_below-at.ensures.from at no_edge (omega arith) h)) in
    ap (λ (x : Edge). Some x) e ∙ sym f
