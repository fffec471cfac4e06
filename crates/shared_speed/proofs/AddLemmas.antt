-- An operation that a handle accepts is one more of its own, whatever others did before it.
use Rattle.std.proofs.Common.{◌≡◌, ◌+◌, ℕ, true, false, nat_eq, List, [], ◌∷◌, ◌++◌, length}
use Rattle.std.proofs.Common.{refl, ap, ◌∙◌, arith, length-append}
use Rattle.std.specs.Prelude.{if◌then◌else◌}
use Rattle.std.specs.List.{filter_map}
use Rattle.std.proofs.lemmas.Bool.{eq-eqb}
use Rattle.std.proofs.lemmas.List.Elements.{filter-append, filter_map-append}
use Rattle.sg_paths.specs.Operations.{PlainOp}
use Rattle.turn_lock.specs.Handles.{own}
use Rattle.index_core.specs.declared.limits.TheConstants.{BATCH_OPERATIONS}
use Rattle.index_core.specs.Histories as events
use Rattle.index_core.specs.Histories.{HistoryEvent, accept, freeze, accepted_number, Record}
use Rattle.index_core.specs.Records.{with_event, accepted, frozen, buffered, next_generation}
use Rattle.index_core.specs.Calls.{with_operation, after_freeze, after_accept}
use Rattle.index_shared.specs.Sections.{caller_of, HandleState, IsSameHandle, seen_by}
use Rattle.index_shared.specs.SharedCalls.{Accepted}
use Rattle.shared_speed.specs.Sharing.{HasAccepted}

-- how many operations of a list of events a caller accepted
abbrev accepts : ℕ → List HistoryEvent → ℕ
accepts n history = events.accepted (own caller_of n history)

accepts-append : (n : ℕ) (xs ys : List HistoryEvent)
    → accepts n (xs ++ ys) ≡ accepts n xs + accepts n ys
accepts-append n xs ys =
    let mine = own caller_of n in
    ap events.accepted (filter-append (λ e. nat_eq (caller_of e) n) xs ys)
    ∙ ap length (filter_map-append accepted_number (mine xs) (mine ys))
    ∙ length-append (filter_map accepted_number (mine xs)) (filter_map accepted_number (mine ys))

accepts-freeze : (n generation from upto : ℕ)
    → accepts n (freeze n generation from upto ∷ []) ≡ 0
accepts-freeze n generation from upto = rw (eq-eqb n n refl) refl

accepts-accept : (n seq : ℕ) → accepts n (accept n seq ∷ []) ≡ 1
accepts-accept n seq = rw (eq-eqb n n refl) refl

accepts-after_freeze : (n : ℕ) (r : Record)
    → accepts n (after_freeze n r).history ≡ accepts n r.history
accepts-after_freeze n r =
    let event = freeze n (next_generation r) (frozen r + 1) (accepted r) in
    let more = accepts-append n r.history (event ∷ []) in
    let none = accepts-freeze n (next_generation r) (frozen r + 1) (accepted r) in
    elim (nat_eq (buffered r) 0) as (λ empty.
    accepts n (if empty then r else with_event r event).history ≡ accepts n r.history) [
      | true ↦ refl
      | false ↦ omega (arith, more, none)
    ]

accepts-after_accept : (n : ℕ) (operation : PlainOp) (r : Record)
    → accepts n (after_accept n operation r).history ≡ accepts n r.history + 1
accepts-after_accept n operation r =
    let added = with_operation n operation r in
    let more = accepts-append n r.history (accept n (accepted r + 1) ∷ []) in
    let one = accepts-accept n (accepted r + 1) in
    let frozen_too = accepts-after_freeze n added in
    elim (nat_eq (buffered added) BATCH_OPERATIONS) as (λ full.
    accepts n (if full then after_freeze n added else added).history
    ≡ accepts n r.history + 1) [
      | true ↦ omega (arith, more, one, frozen_too)
      | false ↦ omega (arith, more, one)
    ]

pub accepted_one : (h new : HandleState) (operation : PlainOp) (seq : ℕ) → IsSameHandle h new
    → Accepted h operation seq (seen_by new) → HasAccepted 1 h new
accepted_one h new operation seq same done =
    let n = h.number in
    let later = done.finds.later in
    let number : new.number ≡ n = ap (λ (x : HandleState). x.number) same in
    let found = ap (accepts n) later.history_is ∙ accepts-append n h.history later.events in
    let none = ap events.accepted done.finds.others in
    let one = ap (λ (r : Record). accepts n r.history) done.after
    ∙ accepts-after_accept n operation done.found in
    record {
      number = number;
      accepts = ap (λ m. accepts m new.history) number ∙ omega (arith, found, none, one);
    }
