-- One handle more is made.
use Rattle.std.proofs.Common.{length, ap, ◌∙◌, ◌+◌}
use Rattle.std.proofs.lemmas.List.{length_push}
use Rattle.turn_lock.specs.Steps.{one_more}
use Rattle.turn_lock.proofs.HandleLemmas.{one_more_handle}
use Rattle.turn_lock.proofs.lock.TurnLock.make_passes.Goals as goal

pub loop-number-preserved : goal.loop-number-preserved
loop-number-preserved g c =
    let i = c.loop-number.invariant in
    let cut = c.cut-seat.ensures in
    let pushed = c.push_reserved.ensures in (
      cut.maker.0 ∙ i.0,
      ap (λ v. v.made) cut.maker.1 ∙ ap one_more i.1,
      ap (λ v. v.seats) cut.maker.1 ∙ i.2,
      one_more_handle _ c.args.self.now c.loop-number.number _ c.args.seats _ c.cut-seat.result.me
          c.loop-number.passes.items _ (cut.seat.0 ∙ i.0) cut.seat.1 i.2 i.3 pushed.items,
      ap length pushed.items
          ∙ (length_push c.loop-number.passes.items _ ∙ ap (λ n. n + 1) i.4),
      pushed.capacity ∙ i.5,
    )
