-- Where the piece misses nothing, nothing is left to do.
use Rattle.std.proofs.Common.{◌∙◌, sym, map}
use Rattle.index_shared.specs.Sections.{seen_by}
use Rattle.index_shared.proofs.OfferReadyLemmas.{skipped_up}
use Rattle.index_shared.proofs.OfferSectionLemmas.{tends_same, nothing_left}
use Rattle.index_shared.proofs.index.Index.refresh.Goals as goal

pub returns-then-is_refreshed-clause-ok : goal.returns-then-is_refreshed-clause-ok
returns-then-is_refreshed-clause-ok g c =
    nothing_left c.args.handle.now c.args.upto c.args.piece.now.generation c.requires.legal
    (skipped_up (seen_by c.args.handle.now) c.args.upto
    (map (λ b. b.value) c.args.batches.now) c.args.piece.now c.requires.ready
    (sym c.is_refreshed.ensures ∙ c.if-is_refreshed.true))

pub returns-then-is_refreshed-clause-tends : goal.returns-then-is_refreshed-clause-tends
returns-then-is_refreshed-clause-tends g c = tends_same c.args.handle.now c.requires.legal

pub returns-in_err-segment-clause-tends : goal.returns-in_err-segment-clause-tends
returns-in_err-segment-clause-tends g c = tends_same c.args.handle.now c.requires.legal

pub returns-in_err-live-clause-tends : goal.returns-in_err-live-clause-tends
returns-in_err-live-clause-tends g c = tends_same c.args.handle.now c.requires.legal
