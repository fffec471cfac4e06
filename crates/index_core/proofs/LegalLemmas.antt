-- A legal record stays legal with one legal event more.
use Rattle.std.proofs.Common.{◌≡◌, ℕ, zero, suc, ◌<◌, ◌≤◌, ◌⊎◌, inl, inr, Some, List, [], ◌∷◌, ◌++◌}
use Rattle.std.proofs.Common.{length, take, refl, sym, ◌∙◌, ap, subst, arith}
use Rattle.std.specs.Prelude.{slice_get}
use Rattle.std.proofs.lemmas.List.{take-append-le, take_all}
use Rattle.sg_paths.specs.Operations.{PlainOp}
use Rattle.index_core.specs.Histories.{HistoryEvent, Record, accepted}
use Rattle.index_core.specs.LegalHistories.{IsLegal, IsLegalNext, first_events}
use Rattle.index_core.proofs.HistoryLemmas.{accepted-take}

-- legal, but for a full buffer that may be left
pub record AreLegal (r : Record) : Type 0 where
  pub numbered : length r.journal ≡ accepted r.history
  pub events : (k : ℕ) (event : HistoryEvent)
      → slice_get r.history k ≡ Some event → IsLegalNext (first_events k r) event

pub are_legal : (r : Record) → IsLegal r → AreLegal r
are_legal r legal = record { numbered = legal.numbered; events = legal.events }

-- an event of a longer history stands before its last or is the last
at_most_last : (history : List HistoryEvent) (last : HistoryEvent) (k : ℕ) (event : HistoryEvent)
    → slice_get (history ++ last ∷ []) k ≡ Some event
    → ((k < length history) × (slice_get history k ≡ Some event))
    ⊎ ((k ≡ length history) × (last ≡ event))
at_most_last [] last zero event got = inr (refl, cc)
at_most_last [] last (suc k) event got = (cc)
at_most_last (x ∷ history) last zero event got = inl (omega arith, got)
at_most_last (x ∷ history) last (suc k) event got =
    elim (at_most_last history last k event got) [
      | inl p ↦ inl (omega (arith, p.0), p.1)
      | inr p ↦ inr (omega (arith, p.0), p.1)
    ]

-- the first events of a longer record are those of the shorter one
first_same : (r : Record) (last : HistoryEvent) (journal : List PlainOp) (k : ℕ)
    → length r.journal ≡ accepted r.history
    → ((n : ℕ) → n ≤ length r.journal → take n journal ≡ take n r.journal)
    → k ≤ length r.history
    → first_events k (record { history = r.history ++ last ∷ []; journal = journal })
    ≡ first_events k r
first_same r last journal k numbered same k-at-most =
    let events : take k (r.history ++ last ∷ []) ≡ take k r.history =
    take-append-le k r.history (last ∷ []) k-at-most in
    let operations : take (accepted (take k r.history)) journal
    ≡ take (accepted (take k r.history)) r.journal =
    same (accepted (take k r.history)) (omega (arith, accepted-take r.history k, numbered)) in
    rw events (rw operations refl)

-- all events are the whole record
pub first_all : (r : Record) → length r.journal ≡ accepted r.history
    → first_events (length r.history) r ≡ r
first_all r numbered =
    let events : take (length r.history) r.history ≡ r.history =
    take_all (length r.history) r.history (omega arith) in
    let operations : take (accepted r.history) r.journal ≡ r.journal =
    take_all (accepted r.history) r.journal (omega (arith, numbered)) in
    rw events (rw operations refl)

pub legal_more : (r : Record) (last : HistoryEvent) (journal : List PlainOp)
    → AreLegal r → IsLegalNext r last
    → ((n : ℕ) → n ≤ length r.journal → take n journal ≡ take n r.journal)
    → length journal ≡ accepted (r.history ++ last ∷ [])
    → AreLegal (record { history = r.history ++ last ∷ []; journal = journal })
legal_more r last journal legal next same numbered = record {
  numbered = numbered;
  events = λ k event got.
      elim (at_most_last r.history last k event got) [
        | inl p ↦
            subst (λ (x : Record). IsLegalNext x event)
            (sym (first_same r last journal k legal.numbered same (omega (arith, p.0))))
            (legal.events k event p.1)
        | inr p ↦
            let whole : first_events k
            (record { history = r.history ++ last ∷ []; journal = journal }) ≡ r =
            first_same r last journal k legal.numbered same (omega (arith, p.0))
            ∙ ap (λ (n : ℕ). first_events n r) p.0 ∙ first_all r legal.numbered in
            subst (λ (e : HistoryEvent). IsLegalNext
            (first_events k (record { history = r.history ++ last ∷ []; journal = journal })) e)
            p.1
            (subst (λ (x : Record). IsLegalNext x last) (sym whole) next)
      ];
}
