-- The two handles of an index that one thread has. No public clause cites this module. Source: this
-- project's own.
use Rattle.std.specs.Prelude.{◌≡◌}
use Rattle.turn_lock.specs.Handles.{LockId}
use Rattle.index_core.specs.LegalHistories.{IsLegal}
use Rattle.index_shared.specs.Sections.{HandleState, IsAt, seen_by}
use Rattle.index_single.specs.declared.caller.TheConstants.{CALLER}

-- both handles of an index, which have seen the same legal record
pub record AreAlone (index : LockId) (main worker : HandleState) : Type 0 where
  pub main_at : IsAt index main
  pub worker_at : IsAt index worker
  pub main_number : main.number ≡ 0
  pub number : worker.number ≡ CALLER
  pub seats : worker.seats ≡ 2
  pub same : seen_by main ≡ seen_by worker
  pub legal : IsLegal (seen_by worker)
