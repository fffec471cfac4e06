-- One number is appended, or none.
use Rattle.std.proofs.Common.{ℕ, sym, ap, ◌∙◌}
use Rattle.turn_lock.specs.Handles.{Handle}
use Rattle.lock_speed.proofs.VisitLemmas.{leaves_one}
use Rattle.lock_speed.proofs.visits.visit.Goals as goal

pub give-requires-clause-leaves : goal.give-requires-clause-leaves
give-requires-clause-leaves g c =
    let taken = c.take-hold.ensures.handle in
    leaves_one c.append-result.result c.take-hold.new.pass c.value.result.now
    c.append-result.new.self c.number.result (ap (λ (h : Handle ℕ ℕ). h.journal) taken)
    (c.value.ensures.value ∙ sym (ap (λ (h : Handle ℕ ℕ). h.history) taken)) c.number.ensures
    c.append-result.ensures.ok c.append-result.ensures.err
