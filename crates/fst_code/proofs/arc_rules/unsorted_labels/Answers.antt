-- One node further.
use Rattle.std.proofs.Common.{◌≡◌, ◌<◌, ◌≤◌, ◌+◌, ◌*◌, ◌∙◌, ℕ, List, [], ap, arith, sym, length}
use Rattle.std.proofs.Common.{get_or, None}
use Rattle.std.proofs.Math.ListN.{drop_of_length-le}
use Rattle.sg_base.specs.declared.node.Edge.{Edge}
use Rattle.fst_code.specs.Bytes.{first_form, nodes_of, node_count}
use Rattle.fst_code.specs.Rules.{over, in_nodes, labels_broken}
use Rattle.fst_code.proofs.ViewLemmas.{parts_framed, room_of, over_next, sizes_next, over_passed}
use Rattle.fst_code.proofs.arc_rules.unsorted_labels.Goals as goal

pub loop-id-init : goal.loop-id-init
loop-id-init c =
    let b = c.args.bytes.now in
    let p = parts_framed b c.requires in
    let n : c.number_at-count.result ≡ length (nodes_of b) =
    c.number_at-count.ensures ∙ sym p.count in
    let r = room_of b c.requires in
    let k = c.number_at-count.ensures in
    let e : c.number_at-count.result ≡ node_count b = k in
    record {
      rest = ap (λ (m : ℕ). over first_form (λ id at n. labels_broken first_form at n) 0
          (16 + 4 * m) (nodes_of b)) n;
      room = omega (arith, r, e);
    }

pub node_in-requires-clause-there : goal.node_in-requires-clause-there
node_in-requires-clause-there c =
    let p = parts_framed c.args.bytes.now c.requires in
    let n : c.number_at-count.result ≡ length (nodes_of c.args.bytes.now) =
    c.number_at-count.ensures ∙ sym p.count in
    omega (arith, n, c.loop-id-test.true)

pub loop-id-preserved : goal.loop-id-preserved
loop-id-preserved c =
    let b = c.args.bytes.now in
    let ns = nodes_of b in
    let p = parts_framed b c.requires in
    let n : c.number_at-count.result ≡ length ns = c.number_at-count.ensures ∙ sym p.count in
    let h : c.loop-id.id < length ns = omega (arith, n, c.loop-id-test.true) in
    let w : length c.node_in.result.arcs.now ≡ 13 * length (get_or ns c.loop-id.id []) =
    c.node_in.ensures.width ∙ ap (λ (es : List Edge). 13 * length es) c.node_in.ensures.edges in
    let s = sizes_next ns c.loop-id.id h in
    let r = c.loop-id.invariant.room in
    let none : labels_broken first_form c.loop-id.at (get_or ns c.loop-id.id []) ≡ None =
    ap (labels_broken first_form c.loop-id.at) (sym c.node_in.ensures.edges)
    ∙ sym c.in_default.ensures in
    record {
      rest = over_passed (labels_broken first_form c.loop-id.at (get_or ns c.loop-id.id [])) _
          (in_nodes first_form (λ id at n. labels_broken first_form at n) ns)
          (sym (over_next (λ id at n. labels_broken first_form at n) ns c.loop-id.id c.loop-id.at
          (length c.node_in.result.arcs.now) h w) ∙ c.loop-id.invariant.rest) none;
      room = omega (arith, r, s, w);
    }

pub returns : goal.returns
returns c =
    let b = c.args.bytes.now in
    let ns = nodes_of b in
    let p = parts_framed b c.requires in
    let n : c.number_at-count.result ≡ length ns = c.number_at-count.ensures ∙ sym p.count in
    let l : length ns ≤ c.loop-id.id = omega (arith, n, c.loop-id-test.false) in
    ap (over first_form (λ id at n. labels_broken first_form at n) c.loop-id.id c.loop-id.at)
    (sym (drop_of_length-le ns l)) ∙ c.loop-id.invariant.rest
