-- A document is deleted.
use Rattle.std.proofs.Common.{◌≡◌, ◌<◌, ◌≤◌, ◌+◌, ◌*◌, ◌/◌, ◌%◌, ◌∷◌, [], ℕ, Bool, true, arith, length, get_or}
use Rattle.std.proofs.Common.{set, refl, sym, ap, ◌∙◌, List}
use Rattle.std.proofs.lemmas.List.{length-set}
use Rattle.seg_live.specs.Bits.{is_set, bits_from}
use Rattle.seg_live.specs.LiveDocs.{live_count, live_without}
use Rattle.seg_live.proofs.BitLemmas.{bit_below, bits_unset, bits_cleared, count_cleared}
use Rattle.seg_live.proofs.BitLemmas.{cleared_word}
use Rattle.seg_live.proofs.bits.Bits.delete.Goals as goal

pub is_bit_set-requires : goal.is_bit_set-requires
is_bit_set-requires c =
    let below = bit_below c.args.self.now c.self.inside.words.items c.self.inside.len c.args.doc
    (sym c.self.view_is) c.requires in
    let within = c.self.invariant.0 in
    let len = ap (λ (ws : List ℕ). length ws) c.as_slice.ensures.value in
    omega (arith, below, within, len)

-- the words as the bits say them
abbrev deleted : List ℕ → ℕ → List ℕ
deleted words doc =
    set words (doc / 64) (cleared_word (get_or words (doc / 64) 0) (doc % 64))

fewer : (live : List Bool) (words new : List ℕ) (len doc count : ℕ) → bits_from words 0 len ≡ live
    → len ≤ 64 * length words → doc < length live → is_set words doc ≡ true
    → new ≡ deleted words doc → count ≡ live_count (bits_from words 0 len)
    → count ≡ live_count (bits_from new 0 len) + 1
fewer live words new len doc count is within below was now counted =
    let least = bit_below live words len doc (sym is) below in
    counted
    ∙ count_cleared words doc len (cleared_word (get_or words (doc / 64) 0) (doc % 64))
    (omega (arith, least, within)) least was refl
    ∙ ap (λ (ws : List ℕ). live_count (bits_from ws 0 len) + 1) (sym now)

without : (live : List Bool) (words new : List ℕ) (len doc : ℕ) → bits_from words 0 len ≡ live
    → len ≤ 64 * length words → doc < length live → new ≡ deleted words doc
    → bits_from new 0 len ≡ live_without 0 (doc ∷ []) live
without live words new len doc is within below now =
    let least = bit_below live words len doc (sym is) below in
    ap (λ (ws : List ℕ). bits_from ws 0 len) now
    ∙ bits_cleared words doc len (cleared_word (get_or words (doc / 64) 0) (doc % 64))
    (omega (arith, least, within)) refl
    ∙ ap (λ (bits : List Bool). live_without 0 (doc ∷ []) bits) is

room : (words new : List ℕ) (len doc : ℕ) → len ≤ 64 * length words → new ≡ deleted words doc
    → len ≤ 64 * length new
room words new len doc within now =
    let same : length new ≡ length words =
    ap (λ (ws : List ℕ). length ws) now ∙ length-set words (doc / 64) _ in
    omega (arith, same, within)

pub returns-then-not-is_bit_set : goal.returns-then-not-is_bit_set
returns-then-not-is_bit_set c =
    sym c.self.view_is
    ∙ bits_unset c.self.inside.words.items c.args.doc c.self.inside.len
    (ap (λ (ws : List ℕ). is_set ws c.args.doc) (sym c.as_slice.ensures.value)
    ∙ sym c.is_bit_set.ensures ∙ c.if-not-is_bit_set.true)
    ∙ ap (λ (bits : List Bool). live_without 0 (c.args.doc ∷ []) bits) c.self.view_is

pub overflow_sub-self : goal.overflow_sub-self
overflow_sub-self c =
    let was : is_set c.self.inside.words.items c.args.doc ≡ true =
    ap (λ (ws : List ℕ). is_set ws c.args.doc) (sym c.as_slice.ensures.value)
    ∙ sym c.is_bit_set.ensures ∙ c.if-not-is_bit_set.false in
    let n = fewer c.args.self.now c.self.inside.words.items c.clear_bit.new.words.items
    c.self.inside.len c.args.doc c.self.inside.count c.self.view_is c.self.invariant.0
    c.requires was c.clear_bit.ensures c.self.invariant.1 in
    omega (arith, n)

pub invariant_of-self : goal.invariant_of-self
invariant_of-self c =
    let was : is_set c.self.inside.words.items c.args.doc ≡ true =
    ap (λ (ws : List ℕ). is_set ws c.args.doc) (sym c.as_slice.ensures.value)
    ∙ sym c.is_bit_set.ensures ∙ c.if-not-is_bit_set.false in
    let n = fewer c.args.self.now c.self.inside.words.items c.clear_bit.new.words.items
    c.self.inside.len c.args.doc c.self.inside.count c.self.view_is c.self.invariant.0
    c.requires was c.clear_bit.ensures c.self.invariant.1 in (
      room c.self.inside.words.items c.clear_bit.new.words.items c.self.inside.len c.args.doc
          c.self.invariant.0 c.clear_bit.ensures,
      omega (arith, n),
    )

pub returns : goal.returns
returns c =
    without c.args.self.now c.self.inside.words.items c.clear_bit.new.words.items
    c.self.inside.len c.args.doc c.self.view_is c.self.invariant.0 c.requires c.clear_bit.ensures
