-- What an operation that is accepted, or refused, makes of the record.
use Rattle.std.proofs.Common.{◌≡◌, ◌<◌, ◌+◌, ℕ, Result, Ok, Err, ap, ◌∙◌, subst}
use Rattle.std.specs.Prelude.{IfOk, IfErr, OnOk, OnErr}
use Rattle.sg_paths.specs.Operations.{PlainOp}
use Rattle.turn_lock.specs.Handles.{LockId}
use Rattle.index_core.specs.declared.limits.TheConstants.{MOST_OPERATIONS}
use Rattle.index_core.specs.declared.refusal.Why.{Why}
use Rattle.index_core.specs.Histories.{Record}
use Rattle.index_core.specs.Records.{accepted, open_views, open_merges}
use Rattle.index_core.specs.Calls.{after_accept, RefusesOperation}
use Rattle.index_core.proofs.ViewLemmas.{open_views-after_accept}
use Rattle.index_shared.specs.Sections.{HandleState, seen_by, Extends}
use Rattle.index_shared.specs.SharedCalls.{Accepted, AcceptRefused}
use Rattle.index_shared.proofs.AppendedLemmas.{accept_more}
use Rattle.index_shared.proofs.OwnMergeLemmas.{open_merges-after_accept}
use Rattle.index_single.specs.declared.caller.TheConstants.{CALLER}
use Rattle.index_single.proofs.CalledLemmas.{Called, does, same_record}

-- an operation was accepted, or refused
pub record Accepts {E : Type 0} (op : PlainOp) (result : Result ℕ E) (why : E → Why)
    (r s : Record) : Type 0 where
  pub number : IfOk result (λ seq. seq ≡ accepted r + 1)
  pub ok : OnOk result (s ≡ after_accept CALLER op r)
  pub room : OnOk result (accepted r < MOST_OPERATIONS)
  pub refused : IfErr result (λ e. RefusesOperation r (why e))
  pub err : OnErr result (s ≡ r)
  pub views : open_views s ≡ open_views r
  pub merges : open_merges s ≡ open_merges r
  pub later : Extends r s

module _ {index : LockId} {main worker worker' main' last : HandleState} {old : Record}
    (called : Called index main worker worker' main' last old) where
  abbrev r : Record
  r = seen_by worker

  abbrev s : Record
  s = seen_by worker'

  pub accepts : {E : Type 0} (op : PlainOp) (result : Result ℕ E) (why : E → Why)
      → IfOk result (λ seq. Accepted worker op seq s)
      → IfErr result (λ e. AcceptRefused worker (why e) s) → Accepts op result why r s
  accepts op (Ok seq) why ok refused =
      let done = does called (λ n x. after_accept n op x) ok.found ok.finds ok.legal ok.after
      (accept_more worker.number op ok.found) in
      record {
        number = ok.number ∙ ap (λ (x : Record). accepted x + 1) done.seen;
        ok = done.ok;
        room = subst (λ (x : Record). accepted x < MOST_OPERATIONS) done.seen ok.room;
        refused = tt;
        err = tt;
        views = ap (λ (x : Record). open_views x) done.ok ∙ open_views-after_accept CALLER op r;
        merges = ap (λ (x : Record). open_merges x) done.ok
            ∙ open_merges-after_accept CALLER op r;
        later = done.later;
      }
  accepts op (Err e) why ok refused =
      let is = same_record called refused.finds in
      record {
        number = tt;
        ok = tt;
        room = tt;
        refused = subst (λ (x : Record). RefusesOperation x (why e)) is refused.refuses;
        err = is;
        views = ap (λ (x : Record). open_views x) is;
        merges = ap (λ (x : Record). open_merges x) is;
        later = refused.finds.later;
      }
