-- Leaving a critical section keeps the rule: a count, and passing the turn on.
use Rattle.std.proofs.Common.{◌≡◌, ◌<◌, ◌+◌, ◌%◌, ◌^◌, ℕ, true, false, List, []}
use Rattle.std.proofs.Common.{◌∷◌, ◌++◌, length, Option, Some, None, refl, sym, ap, ◌∙◌}
use Rattle.std.proofs.Common.{subst, arith, inl, ⊎_elim}
use Rattle.std.specs.Prelude.{slice_index}
use Rattle.std.proofs.lemmas.Option.{same_Some}
use mathlib.Core.Option.{none}
use lib.ListN.{get_elem?}
use Rattle.atomic_table.specs.Table.{State, Me, keeps, gives, step}
use Rattle.atomic_table.specs.Table.{Allows}
use Rattle.turn_lock.specs.declared.seat_view.SeatView.{SeatView}
use Rattle.turn_lock.specs.Rule.{KeepsRule}
use Rattle.turn_lock.specs.Steps.{Counts, PassesOn, Adds, learned}
use Rattle.turn_lock.proofs.PlaceLemmas.{at_get, at_both}
use Rattle.turn_lock.proofs.NumberLemmas.{numbers_kept}
use Rattle.turn_lock.proofs.TicketLemmas.{tickets_kept, tickets_passed}
use Rattle.turn_lock.proofs.ChainLemmas.{chain_still, chain_grown}
use Rattle.turn_lock.proofs.ValueLemmas.{alone, place_out, place_home}
use Rattle.turn_lock.proofs.StepLemmas.{Owes, with_hand, learned_keeps, value_of}

module _ {E O V : Type 0} (history : V → List E) (journal : V → List O) (caller : E → ℕ) where
  abbrev Lock : State (Option V) (SeatView E O) → Type 0
  Lock = KeepsRule history journal caller

  module _ (id : ℕ) (v : SeatView E O) (y : V) (turn : v.turn ≡ true) where
    abbrev hand : List (ℕ × Option V)
    hand = (0, Some y) ∷ []

    -- the new events are counted
    counts : (slots k : ℕ) → Adds history journal caller v y
        → length (history y) ≡ length v.history + k → length (history y) < 2 ^ 64
        → Allows Lock slots id (v, hand) 2 (λ n. (n + k) % 2 ^ 64)
        (Counts history journal caller (step slots 2 k 0 none) (v, hand))
    counts slots k adds long fits64 s R many at fits =
        let w = learned history journal caller v y in
        let whole = R.chain.whole id v at turn in
        let seen : history y ≡ R.past ++ adds.events =
        adds.later_history ∙ ap (λ (xs : List E). xs ++ adds.events) whole.0 in
        let logged : journal y ≡ R.log ++ adds.later_journal.0 =
        adds.later_journal.1 ∙ ap (λ (xs : List O). xs ++ adds.later_journal.0) whole.1 in
        let as_many : (length R.past + k) % 2 ^ 64 ≡ length (history y) =
        (let same = ap length whole.0 in omega arith) in
        let mine = R.place.at_turn id v at turn in
        let others = alone history journal caller R.serving R.past R.log s.homes s.views id v at
        R.next R.waiting mine R.tickets R.place in
        subst (Owes history journal caller s id hand 2 (λ n. (n + k) % 2 ^ 64)
        (Counts history journal caller (step slots 2 k 0 none) (v, hand)))
        (sym R.words) (
          w,
          keeps,
          tt,
          record {
            next = R.next;
            serving = R.serving;
            waiting = R.waiting;
            past = history y;
            log = journal y;
            words = ap (λ n. R.next ∷ R.serving ∷ n ∷ []) as_many;
            tickets = tickets_kept s.views id v at R.next R.serving R.waiting w refl refl
                R.tickets;
            numbers = numbers_kept s.views id v at w refl refl (inl refl) R.numbers;
            chain = chain_grown caller R.past R.log s.views id v w at refl
                (adds.events, seen) (adds.later_journal.0, logged)
                (λ i e far here. ⊎_elim
                (λ old. let lt = (at_get R.past i e old).0 in absurd (omega arith))
                (λ new. adds.own_alone new.0 e new.2)
                (at_both R.past adds.events i e
                (ap (λ (xs : List E). get_elem? xs i) (sym seen) ∙ here)))
                others (learned_keeps history journal caller v y v.turn) R.chain;
            place = place_out history journal caller R.serving R.past R.log s.homes s.views id v
                at w (history y) (journal y) s.homes turn mine (R.place.away id v at turn) others;
          },
          (
            refl,
            λ z is. ap (λ (u : V). learned history journal caller v u)
                (same_Some y z (ap value_of is)),
          ),
        )

    -- the turn is passed on
    passes_on : (slots : ℕ) → 0 < slots → history y ≡ v.history → journal y ≡ v.journal
        → Allows Lock slots id (v, hand) 1 (λ n. (n + 1) % 2 ^ 64)
        (PassesOn {V = V} (step slots 1 1 0 none) (v, hand))
    passes_on slots slot seen logged s R many at fits =
        let w : SeatView E O = record v { ticket = None; turn = false } in
        let whole = R.chain.whole id v at turn in
        let mine = R.place.at_turn id v at turn in
        let others = alone history journal caller R.serving R.past R.log s.homes s.views id v at
        R.next R.waiting mine R.tickets R.place in
        let served : R.serving < 18446744073709551616 =
        subst (λ (ws : List ℕ). slice_index ws 1 < 18446744073709551616) R.words fits in
        let tickets = tickets_passed s.views id v at R.next R.serving R.waiting mine served
        R.tickets in
        subst (Owes history journal caller s id hand 1 (λ n. (n + 1) % 2 ^ 64)
        (PassesOn {V = V} (step slots 1 1 0 none) (v, hand)))
        (sym R.words) (
          w,
          gives,
          tt,
          record {
            next = R.next;
            serving = (R.serving + 1) % 2 ^ 64;
            waiting = tickets.0;
            past = R.past;
            log = R.log;
            words = refl;
            tickets = tickets.1;
            numbers = numbers_kept s.views id v at w refl refl (inl refl) R.numbers;
            chain = chain_still caller R.past R.log s.views id v at v.made None false
                (λ (no : false ≡ true). cc) R.chain;
            place = place_home history journal caller R.serving R.past R.log s.homes s.views id v
                at w ((R.serving + 1) % 2 ^ 64) y refl (omega arith) (seen ∙ whole.0)
                (logged ∙ whole.1) others;
          },
          (refl, refl),
        )

  pub counts_with : (slots id k : ℕ) (me : Me (Option V) (SeatView E O)) (y : V)
      → me.1 ≡ (0, Some y) ∷ [] → me.0.turn ≡ true → Adds history journal caller me.0 y
      → length (history y) ≡ length me.0.history + k → length (history y) < 2 ^ 64
      → Allows Lock slots id me 2 (λ n. (n + k) % 2 ^ 64)
      (Counts history journal caller (step slots 2 k 0 none) me)
  counts_with slots id k me y held turn adds long fits =
      with_hand history journal caller slots id 2 (λ n. (n + k) % 2 ^ 64)
      (Counts history journal caller (step slots 2 k 0 none)) me ((0, Some y) ∷ []) held
      (counts id me.0 y turn slots k adds long fits)

  pub passes_with : (slots id : ℕ) (me : Me (Option V) (SeatView E O)) (y : V)
      → me.1 ≡ (0, Some y) ∷ [] → me.0.turn ≡ true → 0 < slots
      → history y ≡ me.0.history → journal y ≡ me.0.journal
      → Allows Lock slots id me 1 (λ n. (n + 1) % 2 ^ 64)
      (PassesOn {V = V} (step slots 1 1 0 none) me)
  passes_with slots id me y held turn slot seen logged =
      with_hand history journal caller slots id 1 (λ n. (n + 1) % 2 ^ 64)
      (PassesOn {V = V} (step slots 1 1 0 none)) me
      ((0, Some y) ∷ []) held (passes_on id me.0 y turn slots slot seen logged)
