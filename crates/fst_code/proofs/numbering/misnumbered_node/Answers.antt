-- What the walk says.
use Rattle.std.proofs.Common.{◌≡◌, ◌∙◌, ◌-◌, [], sym, subst, arith, ℕ, length}
use Rattle.fst_code.specs.Bytes.{nodes_of}
use Rattle.fst_code.specs.Rules.{postorder}
use Rattle.fst_code.specs.Numbering.{IsPlaced}
use Rattle.fst_code.proofs.ViewLemmas.{parts_framed}
use Rattle.fst_code.proofs.LoopLemmas.{placed_before, placed_whole}
use Rattle.fst_code.proofs.numbering.misnumbered_node.Goals as goal

pub count_in_order-requires-clause-count : goal.count_in_order-requires-clause-count
count_in_order-requires-clause-count c =
    c.number_at-count.ensures ∙ sym (parts_framed c.args.bytes.now c.requires.framed).count

pub returns-then-next-count : goal.returns-then-next-count
returns-then-next-count c =
    let ns = nodes_of c.args.bytes.now in
    let n : c.number_at-count.result ≡ length ns =
    c.number_at-count.ensures ∙ sym (parts_framed c.args.bytes.now c.requires.framed).count in
    placed_before c.in_ok-next.next (length ns) _
    (subst (λ (k : ℕ). IsPlaced c.in_ok-next.next (postorder k ns (k - 1) [])) n
    c.in_ok-next.ensures) (omega (arith, n, c.if-next-count.true))

pub returns-else-next-count : goal.returns-else-next-count
returns-else-next-count c =
    let ns = nodes_of c.args.bytes.now in
    let n : c.number_at-count.result ≡ length ns =
    c.number_at-count.ensures ∙ sym (parts_framed c.args.bytes.now c.requires.framed).count in
    placed_whole c.in_ok-next.next (length ns) _
    (subst (λ (k : ℕ). IsPlaced c.in_ok-next.next (postorder k ns (k - 1) [])) n
    c.in_ok-next.ensures) (omega (arith, n, c.if-next-count.false))
