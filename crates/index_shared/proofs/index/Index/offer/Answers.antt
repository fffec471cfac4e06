-- The pieces of the first section are those that are refreshed.
use Rattle.std.proofs.Common.{◌∙◌, ap, map}
use Rattle.segment.specs.Views.{PlainParts}
use Rattle.index_shared.specs.Sections.{seen_by}
use Rattle.index_shared.proofs.OfferPieceLemmas.{stopped_result}
use Rattle.index_shared.proofs.OfferReadyLemmas.{ready_slices}
use Rattle.index_shared.proofs.OfferSectionLemmas.{both_upkeep}
use Rattle.index_shared.proofs.OfferStopLemmas.{stopped_first}
use Rattle.index_shared.proofs.index.Index.offer.Goals as goal

pub refresh_all-requires-clause-ready : goal.refresh_all-requires-clause-ready
refresh_all-requires-clause-ready g c =
    ready_slices (seen_by c.freeze.new.handle) c.in_ok-parts.parts c.parts.inside.upto
    c.items.result.now (map (λ b. b.value) c.items-2.result.now)
    (ap (λ (p : PlainParts). p.upto) c.parts.view_is)
    (c.items.ensures ∙ ap (λ (p : PlainParts). p.pieces) c.parts.view_is)
    (ap (λ bs. map (λ b. b.value) bs) c.items-2.ensures
    ∙ ap (λ (p : PlainParts). p.batches) c.parts.view_is) c.in_ok-parts.ensures.parts
    c.in_ok-parts.ensures.buildable

pub returns-in_err-parts-clause-stopped : goal.returns-in_err-parts-clause-stopped
returns-in_err-parts-clause-stopped g c =
    stopped_first c.from_residual.result c.args.handle.now c.freeze.new.handle
    c.in_err-parts.ensures.err

pub returns-in_err-count-clause-stopped : goal.returns-in_err-count-clause-stopped
returns-in_err-count-clause-stopped g c =
    stopped_result c.args.handle.now c.freeze.new.handle c.refresh_all.new.handle
    c.in_ok-parts.parts c.parts.inside.upto c.items.result.now
    c.from_residual-in_err-count.result c.in_ok-parts.ensures.ok c.freeze.ensures.tends
    c.in_ok-parts.ensures.parts (ap (λ (p : PlainParts). p.upto) c.parts.view_is)
    (c.items.ensures ∙ ap (λ (p : PlainParts). p.pieces) c.parts.view_is)
    c.in_err-count.ensures.err

pub returns-in_err-count-clause-upkeep : goal.returns-in_err-count-clause-upkeep
returns-in_err-count-clause-upkeep g c =
    both_upkeep c.args.handle.now c.freeze.new.handle c.refresh_all.new.handle
    c.freeze.ensures.tends c.refresh_all.ensures.tends

pub returns-clause-upkeep : goal.returns-clause-upkeep
returns-clause-upkeep g c =
    both_upkeep c.args.handle.now c.freeze.new.handle c.refresh_all.new.handle
    c.freeze.ensures.tends c.refresh_all.ensures.tends
