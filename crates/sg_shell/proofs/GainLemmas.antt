-- What the calls of the index add to a record.
use Rattle.std.proofs.Common.{◌≡◌, ◌+◌, ℕ, Bool, true, false, cond, nat_eq, List, [], ◌∷◌, ◌++◌}
use Rattle.std.proofs.Common.{length, refl, sym, ap, ◌∙◌, arith, append-nil, append_assoc}
use Rattle.std.proofs.Common.{length-append, add-zero}
use Rattle.std.specs.Prelude.{fold}
use Rattle.std.specs.List.{filter_map}
use Rattle.std.proofs.lemmas.List.Elements.{filter_map-append}
use Rattle.sg_paths.specs.Operations.{PlainOp}
use Rattle.index_core.specs.declared.limits.TheConstants.{BATCH_OPERATIONS}
use Rattle.index_core.specs.Histories.{HistoryEvent, accept, built, live_docs_updated, Record}
use Rattle.index_core.specs.Histories.{accepted_number}
use Rattle.index_core.specs.Records.{with_event, accepted, frozen, buffered, current}
use Rattle.index_core.specs.Calls.{with_operation, after_freeze, after_accept, after_begin}
use Rattle.index_core.specs.Calls.{after_end}
use Rattle.index_core.specs.CurrentPieces.{is_unbuilt, after_built, is_behind}
use Rattle.index_shared.specs.Offers.{refreshed, after_flush}

-- one operation for each accept
abbrev pub IsCounted : Record → Type 0
IsCounted r = accepted r ≡ length r.journal

-- a record that has gained these operations
pub record Gains (now : List PlainOp) (old new : Record) : Type 0 where
  pub events : List HistoryEvent
  pub history : new.history ≡ old.history ++ events
  pub journal : new.journal ≡ old.journal ++ now
  pub counted : accepted new ≡ accepted old + length now

accepted-event : (r : Record) (event : HistoryEvent)
    → accepted (with_event r event) ≡ accepted r + length (filter_map accepted_number (event ∷ []))
accepted-event r event =
    ap length (filter_map-append accepted_number r.history (event ∷ []))
    ∙ length-append (filter_map accepted_number r.history) (filter_map accepted_number (event ∷ []))

pub gains-none : (r : Record) → Gains [] r r
gains-none r = record {
  events = [];
  history = sym (append-nil r.history);
  journal = sym (append-nil r.journal);
  counted =
      sym (add-zero (accepted r));
}

pub gains-event : (r : Record) (event : HistoryEvent) → filter_map accepted_number (event ∷ []) ≡ []
    → Gains [] r (with_event r event)
gains-event r event none = record {
  events = event ∷ [];
  history = refl;
  journal = sym (append-nil r.journal);
  counted = accepted-event r event
      ∙ ap (λ (ns : List ℕ). accepted r + length ns) none;
}

pub gains-then : (now : List PlainOp) (old mid new : Record) → Gains now old mid → Gains [] mid new
    → Gains now old new
gains-then now old mid new first later = record {
  events = first.events ++ later.events;
  history = later.history ∙ ap (λ (h : List HistoryEvent). h ++ later.events) first.history
      ∙ append_assoc old.history first.events later.events;
  journal = later.journal ∙ (append-nil mid.journal ∙ first.journal);
  counted = later.counted ∙ (add-zero (accepted mid) ∙ first.counted);
}

gains-if : (b : Bool) (now : List PlainOp) (old one other : Record) → Gains now old one
    → Gains now old other → Gains now old (cond b one other)
gains-if true now old one other p q = p
gains-if false now old one other p q = q

pub gains-freeze : (caller : ℕ) (r : Record) → Gains [] r (after_freeze caller r)
gains-freeze caller r =
    gains-if (nat_eq (buffered r) 0) [] r r _ (gains-none r) (gains-event r _ refl)

pub gains-accept : (caller : ℕ) (r : Record) (operation : PlainOp)
    → Gains (operation ∷ []) r (after_accept caller operation r)
gains-accept caller r operation =
    let added = with_operation caller operation r in
    let one : Gains (operation ∷ []) r added =
    record {
      events = accept caller (accepted r + 1) ∷ [];
      history = refl;
      journal = refl;
      counted = accepted-event r (accept caller (accepted r + 1));
    } in
    gains-if (nat_eq (buffered added) BATCH_OPERATIONS) (operation ∷ []) r _ added
    (gains-then (operation ∷ []) r added _ one (gains-freeze caller added)) one

pub gains-begin : (caller : ℕ) (r : Record) → Gains [] r (after_begin caller r)
gains-begin caller r =
    let all_frozen = after_freeze caller r in
    gains-then [] r all_frozen _ (gains-freeze caller r) (gains-event all_frozen _ refl)

pub gains-end : (caller view : ℕ) (r : Record) → Gains [] r (after_end caller view r)
gains-end caller view r = gains-event r _ refl

gains-refreshed : (caller upto : ℕ) (r : Record) (g : ℕ) → Gains [] r (refreshed caller upto r g)
gains-refreshed caller upto r g =
    let has = after_built caller g r in
    gains-then [] r has _
    (gains-if (is_unbuilt r g) [] r _ r (gains-event r (built caller g) refl) (gains-none r))
    (gains-if (is_behind has g upto) [] has _ has
    (gains-event has (live_docs_updated caller g upto) refl) (gains-none has))

gains-all : (caller upto : ℕ) (gs : List ℕ) (r : Record)
    → Gains [] r (fold (refreshed caller upto) r gs)
gains-all caller upto [] r = gains-none r
gains-all caller upto (g ∷ gs) r =
    let one = refreshed caller upto r g in
    gains-then [] r one _ (gains-refreshed caller upto r g) (gains-all caller upto gs one)

pub gains-flush : (caller : ℕ) (r : Record) → Gains [] r (after_flush caller r)
gains-flush caller r =
    let all_frozen = after_freeze caller r in
    gains-then [] r all_frozen _ (gains-freeze caller r)
    (gains-all caller (frozen all_frozen) (current all_frozen) all_frozen)

pub gains-counted : (now : List PlainOp) (old new : Record) → IsCounted old → Gains now old new
    → IsCounted new
gains-counted now old new counted gains =
    omega (arith, gains.counted, counted, ap length gains.journal, length-append old.journal now)
