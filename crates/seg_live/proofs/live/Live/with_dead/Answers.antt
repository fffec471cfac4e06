-- One document more.
use Rattle.std.proofs.Common.{◌≡◌, ◌<◌, ◌∷◌, [], Bool, arith, length}
use Rattle.std.proofs.Common.{get_or, take, sym, ap, ◌∙◌, List}
use Rattle.std.proofs.lemmas.List.Elements.{All-get_or}
use Rattle.std.proofs.lemmas.List.{take_more}
use Rattle.seg_live.specs.LiveDocs.{live_without}
use Rattle.seg_live.proofs.BitLemmas.{without_none, without_more, length_without}
use Rattle.seg_live.proofs.BitLemmas.{length_bits_or_all}
use Rattle.seg_live.proofs.live.Live.with_dead.Goals as goal

pub loop-doc-init : goal.loop-doc-init
loop-doc-init c = c.in_ok-bits.ensures ∙ sym (without_none 0 c.args.self.now)

pub delete-requires : goal.delete-requires
delete-requires c =
    let i = c.loop-doc.doc-index in
    let same : length c.loop-doc.bits ≡ length c.args.self.now =
    ap (λ (live : List Bool). length live) c.loop-doc.invariant
    ∙ length_without 0 (take i c.args.dead.now) c.args.self.now in
    let below = All-get_or (λ doc. doc < length c.args.self.now) c.args.dead.now i 0 (omega arith) c.requires in
    omega (arith, same, below)

pub loop-doc-preserved : goal.loop-doc-preserved
loop-doc-preserved c =
    let i = c.loop-doc.doc-index in
    c.delete.ensures
    ∙ ap (λ (live : List Bool). live_without 0 (get_or c.args.dead.now i 0 ∷ []) live)
    c.loop-doc.invariant
    ∙ without_more 0 (take i c.args.dead.now) (get_or c.args.dead.now i 0 ∷ []) c.args.self.now
    ∙ ap (λ places. live_without 0 places c.args.self.now)
    (sym (take_more c.args.dead.now i 0 (omega arith)))

pub invariant_of-result : goal.invariant_of-result
invariant_of-result c =
    ap (λ (live : List Bool). length live) c.loop-doc.invariant
    ∙ length_without 0 (take c.loop-doc.doc-index c.args.dead.now) c.args.self.now
    ∙ ap (λ (live : List Bool). length live) (sym c.self.view_is)
    ∙ length_bits_or_all c.self.inside.len c.self.inside.bits c.self.invariant
