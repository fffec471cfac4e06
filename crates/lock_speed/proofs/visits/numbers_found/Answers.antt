-- A look changes nothing.
use Rattle.std.proofs.Common.{ℕ, sym, ap, ◌∙◌}
use Rattle.turn_lock.specs.Handles.{Handle}
use Rattle.lock_speed.proofs.VisitLemmas.{leaves_all}
use Rattle.lock_speed.proofs.visits.numbers_found.Goals as goal

pub give-requires-clause-leaves : goal.give-requires-clause-leaves
give-requires-clause-leaves g c =
    let taken = c.take-hold.ensures.handle in
    leaves_all c.take-hold.new.pass c.value.result.now
    (ap (λ (h : Handle ℕ ℕ). h.journal) taken)
    (c.value.ensures.value ∙ sym (ap (λ (h : Handle ℕ ℕ). h.history) taken))
