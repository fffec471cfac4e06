-- The arcs of a node.
use Rattle.std.proofs.Common.{arith, ◌+◌, ◌*◌}
use Rattle.fst_code.proofs.ViewLemmas.{place, entry_within, view_is, width_is, parts_framed}
use Rattle.fst_code.proofs.transducer.node_in.Goals as goal

pub number_at-requires : goal.number_at-requires
number_at-requires c =
    let l = (parts_framed c.args.bytes.now c.requires.framed).long in
    omega (arith, l)

pub arcs_before-from-requires : goal.arcs_before-from-requires
arcs_before-from-requires c =
    let l = entry_within c.args.bytes.now c.args.id c.requires.framed c.requires.there in
    omega (arith, l)

pub number_at-upto-requires : goal.number_at-upto-requires
number_at-upto-requires c =
    let l = entry_within c.args.bytes.now c.args.id c.requires.framed c.requires.there in
    omega (arith, l)

pub part-requires : goal.part-requires
part-requires c =
    let p = place c.args.bytes.now c.args.id c.arcs_before-from.result c.number_at-upto.result
    c.number_at.result c.requires.framed c.requires.there c.number_at.ensures
    c.arcs_before-from.ensures c.number_at-upto.ensures in
    let r = p.rises in
    let w = p.within in
    record { rises = omega (arith, r); within = omega (arith, w) }

pub returns-clause-edges : goal.returns-clause-edges
returns-clause-edges c =
    let p = place c.args.bytes.now c.args.id c.arcs_before-from.result c.number_at-upto.result
    c.number_at.result c.requires.framed c.requires.there c.number_at.ensures
    c.arcs_before-from.ensures c.number_at-upto.ensures in
    view_is c.args.bytes.now c.part.result.now c.args.id c.arcs_before-from.result
    c.number_at-upto.result (16 + 4 * c.number_at.result) p c.part.ensures

pub returns-clause-width : goal.returns-clause-width
returns-clause-width c =
    let p = place c.args.bytes.now c.args.id c.arcs_before-from.result c.number_at-upto.result
    c.number_at.result c.requires.framed c.requires.there c.number_at.ensures
    c.arcs_before-from.ensures c.number_at-upto.ensures in
    width_is c.args.bytes.now c.part.result.now c.args.id c.arcs_before-from.result
    c.number_at-upto.result (16 + 4 * c.number_at.result) p c.part.ensures
