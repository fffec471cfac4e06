-- One thread has both handles, so a critical section finds what was seen: main, which meets the
-- worker after each call and has no event of its own, knows of all events.
use Rattle.std.proofs.Common.{◌≡◌, ℕ, [], ◌++◌, List, length, refl, sym, ap, ◌∙◌, subst}
use Rattle.std.proofs.Common.{arith, inl, inr, nat_eq}
use Rattle.std.proofs.lemmas.List.{append-nil, append_assoc, append_cancel_left, length-append}
use Rattle.std.proofs.lemmas.List.Elements.{filter-append}
use Rattle.sg_paths.specs.Operations.{PlainOp}
use Rattle.turn_lock.specs.Handles.{LockId, own, Met}
use Rattle.index_core.specs.Histories.{HistoryEvent, Record}
use Rattle.index_core.specs.LegalHistories.{IsLegal}
use Rattle.index_core.proofs.ListLemmas.{no_items}
use Rattle.index_shared.specs.Sections.{HandleState, seen_by, IsSameHandle, caller_of, FindsRecord}
use Rattle.index_shared.specs.Sections.{Extends}
use Rattle.index_shared.proofs.ExtendsLemmas.{extends_same, extends_on}
use Rattle.index_shared.proofs.OfferAloneLemmas.{first_none, found_is_seen}
use Rattle.index_single.specs.Handles.{AreAlone}

-- ---- lists

-- two lists of which each begins with the other are one
both_ways : {X : Type 0} (xs ys more less : List X) → ys ≡ xs ++ more → xs ≡ ys ++ less → xs ≡ ys
both_ways {X} xs ys more less longer shorter =
    let a = ap (λ (zs : List X). length zs) longer in
    let b = ap (λ (zs : List X). length zs) shorter in
    let c = length-append xs more in
    let d = length-append ys less in
    sym (longer ∙ ap (λ (zs : List X). xs ++ zs) (no_items more (omega (arith, a, b, c, d)))
    ∙ append-nil xs)

-- ---- a call, and the meeting after it

module _ (index : LockId) (main worker main' worker' : HandleState)
    (alone : AreAlone index main worker)
    (met : Met caller_of worker' main main'.history main'.journal) where
  main_saw : main.history ≡ worker.history
  main_saw = ap (λ (r : Record). r.history) alone.same

  -- main has no event among those of the call, since it gained none by meeting
  pub quiet : (more : List HistoryEvent) → worker'.history ≡ worker.history ++ more
      → own caller_of 0 more ≡ []
  quiet more is =
      let gained = met.later_to.events in
      let behind = met.later_from.events in
      let whole : gained ≡ more ++ behind =
      append_cancel_left worker.history gained (more ++ behind)
      (ap (λ (h : List HistoryEvent). h ++ gained) (sym main_saw)
      ∙ sym met.later_to.history_is ∙ met.later_from.history_is
      ∙ ap (λ (h : List HistoryEvent). h ++ behind) is
      ∙ append_assoc worker.history more behind) in
      let none : own caller_of 0 gained ≡ [] =
      subst (λ (n : ℕ). own caller_of n gained ≡ []) alone.main_number met.others in
      first_none (own caller_of 0 more) (own caller_of 0 behind)
      (sym (filter-append (λ e. nat_eq (caller_of e) 0) more behind)
      ∙ ap (own caller_of 0) (sym whole) ∙ none)

  -- the section found what was seen
  pub found_alone : (found : Record) → FindsRecord worker found → IsLegal found
      → Extends found (seen_by worker') → found ≡ seen_by worker
  found_alone found finds legal later =
      let both = extends_on (seen_by worker) found (seen_by worker') finds.later later in
      found_is_seen worker worker' (record {
        seats = alone.seats;
        number = alone.number;
        numbered = alone.legal.numbered;
        more = both.events;
        history_is = both.history_is;
        quiet = quiet both.events both.history_is;
      }) found finds legal later

  -- and so it is where the call left that as it was
  pub seen_alone : FindsRecord worker (seen_by worker') → IsLegal (seen_by worker')
      → seen_by worker' ≡ seen_by worker
  seen_alone finds legal =
      found_alone (seen_by worker') finds legal (extends_same (seen_by worker'))

  -- main has seen what the worker has
  both_saw : Extends (seen_by worker) (seen_by worker') → seen_by main' ≡ seen_by worker'
  both_saw later =
      elim met.longer [
        | inl first ↦ rw (first.0, first.1) refl
        | inr second ↦
            let history : main'.history ≡ worker'.history =
            both_ways main'.history worker'.history later.events met.later_from.events
            (later.history_is
            ∙ ap (λ (h : List HistoryEvent). h ++ later.events) (sym main_saw ∙ sym second.0))
            met.later_from.history_is in
            let journal : main'.journal ≡ worker'.journal =
            both_ways main'.journal worker'.journal later.operations met.later_from.operations
            (later.journal_is
            ∙ ap (λ (ops : List PlainOp). ops ++ later.operations)
            (sym (ap (λ (r : Record). r.journal) alone.same) ∙ sym second.1))
            met.later_from.journal_is in
            rw (history, journal) refl
      ]

  pub still_alone : IsSameHandle worker worker' → IsSameHandle main main'
      → Extends (seen_by worker) (seen_by worker') → IsLegal (seen_by worker')
      → AreAlone index main' worker'
  still_alone same same' later legal = record {
    main_at = (
      ap (λ (h : HandleState). h.lock) same' ∙ alone.main_at.0,
      ap (λ (h : HandleState). h.inside) same' ∙ alone.main_at.1,
    );
    worker_at = (
      ap (λ (h : HandleState). h.lock) same ∙ alone.worker_at.0,
      ap (λ (h : HandleState). h.inside) same ∙ alone.worker_at.1,
    );
    main_number = ap (λ (h : HandleState). h.number) same' ∙ alone.main_number;
    number = ap (λ (h : HandleState). h.number) same ∙ alone.number;
    seats = ap (λ (h : HandleState). h.seats) same ∙ alone.seats;
    same = both_saw later;
    legal = legal;
  }
