-- All words are full.
use Rattle.std.proofs.Common.{◌≡◌, ◌≤◌, ◌*◌, ◌/◌, ℕ, arith, length, replicate, get_or, true}
use Rattle.std.proofs.Common.{sym, ap, ◌∙◌, List}
use Rattle.std.proofs.lemmas.List.{length-replicate, get_or-replicate}
use Rattle.seg_live.specs.LiveDocs.{live_count}
use Rattle.seg_live.specs.Bits.{bits_from}
use Rattle.seg_live.proofs.BitLemmas.{bits_all, count_all, word_full}
use Rattle.seg_live.proofs.bits.Bits.all.Goals as goal

abbrev FULL : ℕ
FULL = 18446744073709551615

all_full : (words : List ℕ) (n k : ℕ) → words ≡ replicate k FULL → n ≤ 64 * k
    → bits_from words 0 n ≡ replicate n true
all_full words n k is fit = bits_all words 0 n (λ i l. word_full words i
    (ap (λ ws. get_or ws (i / 64) 0) is
    ∙ get_or-replicate k (i / 64) FULL 0 (omega (arith, l, fit))))

room : (words : List ℕ) (n k : ℕ) → words ≡ replicate k FULL → n ≤ 64 * k → n ≤ 64 * length words
room words n k is fit =
    let l : length words ≡ k = ap (λ (ws : List ℕ). length ws) is ∙ length-replicate k FULL in
    omega (arith, l, fit)

pub invariant_of-result : goal.invariant_of-result
invariant_of-result c =
    let is = c.in_ok-vec.ensures.items_if_clones_equal (λ y h. h) in
    let fit : c.args.count ≤ 64 * c.div_ceil-words.result = omega arith in
    let full = all_full c.in_ok-vec.field-0.items c.args.count c.div_ceil-words.result is fit in (
      room c.in_ok-vec.field-0.items c.args.count c.div_ceil-words.result is fit,
      sym (ap live_count full ∙ count_all c.args.count),
    )

pub returns : goal.returns
returns c =
    all_full c.in_ok-vec.field-0.items c.args.count c.div_ceil-words.result
    (c.in_ok-vec.ensures.items_if_clones_equal (λ y h. h)) (omega arith)
