-- One piece more.
use Rattle.std.proofs.Common.{◌≡◌, ◌+◌, map}
use Rattle.std.specs.Prelude.{if◌then◌else◌}
use Rattle.index_shared.proofs.OfferPieceLemmas.{completes_all, refreshing_first, refreshing_more}
use Rattle.index_shared.proofs.OfferPieceLemmas.{refreshing_stops}
use Rattle.index_shared.proofs.OfferPieceLemmas.{counted_one, counted_none, ready_here}
use Rattle.index_shared.proofs.OfferSectionLemmas.{tends_both, still_at}
use Rattle.index_shared.proofs.index.Index.refresh_all.Goals as goal
use Rattle.index_shared.proofs.index.Index.refresh_all.Goals.{then-done, else-done}

pub loop-piece-init : goal.loop-piece-init
loop-piece-init g c =
    refreshing_first c.args.handle.now c.args.upto (map (λ b. b.value) c.args.batches.now)
    c.args.pieces.now c.requires.legal c.requires.ready

pub refresh-requires-clause-at : goal.refresh-requires-clause-at
refresh-requires-clause-at g c =
    still_at c.args.self.now c.args.handle.now c.loop-piece.handle c.loop-piece.invariant.2
    c.requires.at

pub refresh-requires-clause-legal : goal.refresh-requires-clause-legal
refresh-requires-clause-legal g c = c.loop-piece.invariant.2.legal

pub refresh-requires-clause-ready : goal.refresh-requires-clause-ready
refresh-requires-clause-ready g c =
    ready_here c.loop-piece.handle c.args.upto c.loop-piece.piece-index
    (map (λ b. b.value) c.args.batches.now) c.piece-item.result c.args.pieces.now
    c.loop-piece-test.true c.piece-item.is c.loop-piece.invariant.3

pub returns-in_err-done-clause-tends : goal.returns-in_err-done-clause-tends
returns-in_err-done-clause-tends g c =
    tends_both c.args.handle.now c.loop-piece.handle c.refresh.new.handle
    c.loop-piece.invariant.2 c.refresh.ensures.tends

pub returns-in_err-done-clause-err : goal.returns-in_err-done-clause-err
returns-in_err-done-clause-err g c =
    let l = c.loop-piece in
    refreshing_stops c.from_residual.result c.args.handle.now l.handle c.refresh.new.handle
    c.args.upto l.count l.piece-index (map (λ b. b.value) c.args.batches.now)
    c.piece-item.result c.args.pieces.now c.loop-piece-test.true c.piece-item.is l.invariant
    c.in_err-done.ensures.err

pub loop-piece-preserved : goal.loop-piece-preserved
loop-piece-preserved g c =
    let l = c.loop-piece in
    let done = c.in_ok-done.done in
    let sum : c.if-done.count ≡ l.count + (if c.in_ok-done.done then 1 else 0) =
    elim c.if-done.branch [
      | then-done w ↦ counted_one l.count c.if-done.count done w.if-done.true w.count-is
      | else-done w ↦ counted_none l.count c.if-done.count done w.if-done.false w.count-is
    ] in
    refreshing_more c.args.handle.now l.handle c.refresh.new.handle c.args.upto l.count
    c.if-done.count l.piece-index done (map (λ b. b.value) c.args.batches.now)
    c.piece-item.result c.args.pieces.now c.loop-piece-test.true c.piece-item.is l.invariant
    c.in_ok-done.ensures.ok c.refresh.ensures.tends sum

pub returns-clause-ok : goal.returns-clause-ok
returns-clause-ok g c =
    completes_all c.args.handle.now c.loop-piece.handle c.args.upto c.loop-piece.count
    c.loop-piece.piece-index c.args.pieces.now c.loop-piece-test.false c.loop-piece.invariant.0
