-- What leaves the views of a record as they are: whatever neither begins nor ends one.
use Rattle.std.proofs.Common.{◌≡◌, ◌+◌, ℕ, Bool, true, false, cond, nat_eq, List, [], ◌∷◌, refl}
use Rattle.std.proofs.Common.{◌∙◌, None}
use Rattle.std.specs.Prelude.{fold}
use Rattle.sg_paths.specs.Operations.{PlainOp}
use Rattle.index_core.specs.declared.limits.TheConstants.{BATCH_OPERATIONS}
use Rattle.index_core.specs.Histories.{HistoryEvent, accept, built, live_docs_updated}
use Rattle.index_core.specs.Histories.{Record, begun_view, ended_view}
use Rattle.index_core.specs.Records.{with_event, accepted, frozen, buffered}
use Rattle.index_core.specs.Records.{current}
use Rattle.index_core.specs.Calls.{with_operation, after_accept, after_freeze}
use Rattle.index_core.specs.CurrentPieces.{is_unbuilt, after_built, is_behind, after_lived}
use Rattle.index_core.proofs.HistoryLemmas.{skips}
use Rattle.index_shared.specs.Offers.{refreshed, after_flush}
use Rattle.sg_shell.specs.Working.{Quiet}

pub quiet_same : (r : Record) → Quiet r r
quiet_same r = record { begun = refl; ended = refl }

pub quiet_both : (r s u : Record) → Quiet r s → Quiet s u → Quiet r u
quiet_both r s u p q = record { begun = q.begun ∙ p.begun; ended = q.ended ∙ p.ended }

pub quiet_event : (r : Record) (e : HistoryEvent) → begun_view e ≡ None → ended_view e ≡ None
    → Quiet r (with_event r e)
quiet_event r e begins ends = record {
  begun = skips begun_view r.history e begins;
  ended = skips ended_view r.history e ends;
}

quiet_if : (b : Bool) (r one other : Record) → Quiet r one → Quiet r other
    → Quiet r (cond b one other)
quiet_if true r one other p q = p
quiet_if false r one other p q = q

pub quiet_freeze : (caller : ℕ) (r : Record) → Quiet r (after_freeze caller r)
quiet_freeze caller r =
    quiet_if (nat_eq (buffered r) 0) r r _ (quiet_same r) (quiet_event r _ refl refl)

pub quiet_accept : (caller : ℕ) (operation : PlainOp) (r : Record)
    → Quiet r (after_accept caller operation r)
quiet_accept caller operation r =
    let added = with_operation caller operation r in
    let one : Quiet r added = record {
      begun = skips begun_view r.history (accept caller (accepted r + 1)) refl;
      ended = skips ended_view r.history (accept caller (accepted r + 1)) refl;
    } in
    quiet_if (nat_eq (buffered added) BATCH_OPERATIONS) r (after_freeze caller added) added
    (quiet_both r added (after_freeze caller added) one (quiet_freeze caller added)) one

pub quiet_built : (caller g : ℕ) (r : Record) → Quiet r (after_built caller g r)
quiet_built caller g r =
    quiet_if (is_unbuilt r g) r _ r (quiet_event r (built caller g) refl refl) (quiet_same r)

pub quiet_lived : (caller g upto : ℕ) (r : Record) → Quiet r (after_lived caller g upto r)
quiet_lived caller g upto r =
    quiet_if (is_behind r g upto) r _ r
    (quiet_event r (live_docs_updated caller g upto) refl refl) (quiet_same r)

pub quiet_all : (caller upto : ℕ) (gs : List ℕ) (r : Record)
    → Quiet r (fold (refreshed caller upto) r gs)
quiet_all caller upto [] r = quiet_same r
quiet_all caller upto (g ∷ gs) r =
    let has = after_built caller g r in
    let one = refreshed caller upto r g in
    quiet_both r one (fold (refreshed caller upto) one gs)
    (quiet_both r has one (quiet_built caller g r) (quiet_lived caller g upto has))
    (quiet_all caller upto gs one)

pub quiet_flush : (caller : ℕ) (r : Record) → Quiet r (after_flush caller r)
quiet_flush caller r =
    let all_frozen = after_freeze caller r in
    let upto = frozen all_frozen in
    quiet_both r all_frozen (fold (refreshed caller upto) all_frozen (current all_frozen))
    (quiet_freeze caller r) (quiet_all caller upto (current all_frozen) all_frozen)
