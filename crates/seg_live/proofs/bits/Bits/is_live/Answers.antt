-- A document is live where its bit is set.
use Rattle.std.proofs.Common.{ℕ, Bool, arith, length, get_or, sym, ap, ◌∙◌, List, zero-add}
use Rattle.seg_live.specs.Bits.{is_set}
use Rattle.seg_live.proofs.BitLemmas.{bit_below, bit_is}
use Rattle.seg_live.proofs.bits.Bits.is_live.Goals as goal

pub is_bit_set-requires : goal.is_bit_set-requires
is_bit_set-requires c =
    let below = bit_below c.args.self.now c.self.inside.words.items c.self.inside.len c.args.doc
    (sym c.self.view_is) c.requires in
    let within = c.self.invariant.0 in
    let len = ap (λ (ws : List ℕ). length ws) c.as_slice.ensures.value in
    omega (arith, below, within, len)

pub returns : goal.returns
returns c b =
    let below = bit_below c.args.self.now c.self.inside.words.items c.self.inside.len c.args.doc
    (sym c.self.view_is) c.requires in
    c.is_bit_set.ensures ∙ ap (λ (ws : List ℕ). is_set ws c.args.doc) c.as_slice.ensures.value
    ∙ ap (λ i. is_set c.self.inside.words.items i) (sym (zero-add c.args.doc))
    ∙ sym (bit_is c.self.inside.words.items 0 c.self.inside.len c.args.doc b below)
    ∙ ap (λ (bits : List Bool). get_or bits c.args.doc b) c.self.view_is
