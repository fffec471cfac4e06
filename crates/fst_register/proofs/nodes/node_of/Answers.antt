-- The arcs between two ends.
use Rattle.std.proofs.Common.{rules, arith, ◌≤◌, length, sym}
use Rattle.fst_register.proofs.NodeListLemmas.{get_or-nodes_between, rises, within}
use Rattle.fst_register.proofs.nodes.node_of.Goals as goal

pub offset_bounds-edges-from : goal.offset_bounds-edges-from
offset_bounds-edges-from c =
    let ends = c.args.ends.now in
    let total = length c.args.edges.now in
    let at = c.requires.contiguous.ends_at in
    let r = rises 0 ends total c.args.id at c.requires.there in
    let w = within 0 ends total c.args.id at c.requires.there in
    let f : c.start_of-from.result ≤ total = omega (arith, r, w, c.start_of-from.ensures) in
    search (f, rules)

pub slice_bounds-result-count : goal.slice_bounds-result-count
slice_bounds-result-count c =
    let at = c.requires.contiguous.ends_at in
    let total = length c.args.edges.now in
    let r = rises 0 c.args.ends.now total c.args.id at c.requires.there in
    omega (arith, r, c.start_of-from.ensures)

pub slice_bounds-result-start : goal.slice_bounds-result-start
slice_bounds-result-start c =
    let at = c.requires.contiguous.ends_at in
    let total = length c.args.edges.now in
    let r = rises 0 c.args.ends.now total c.args.id at c.requires.there in
    omega (arith, r, c.start_of-from.ensures)

pub slice_bounds-result-end : goal.slice_bounds-result-end
slice_bounds-result-end c =
    let at = c.requires.contiguous.ends_at in
    let total = length c.args.edges.now in
    let w = within 0 c.args.ends.now total c.args.id at c.requires.there in
    omega (arith, w)

pub returns : goal.returns
returns c =
    let at = get_or-nodes_between 0 c.args.ends.now c.args.edges.now c.args.id c.requires.there in
    rw c.start_of-from.ensures (sym at)
