-- Entering a critical section keeps the rule: a draw, and a look.
use Rattle.std.proofs.Common.{◌≡◌, ◌<◌, ◌+◌, ◌%◌, ◌^◌, ℕ, Bool, true, false, List, []}
use Rattle.std.proofs.Common.{◌∷◌, length, set, Option, Some, None, refl, sym, ap, ◌∙◌}
use Rattle.std.proofs.Common.{subst, arith, inl}
use Rattle.std.specs.Prelude.{is_some}
use Rattle.std.specs.Bool.{MatchBool, ◌==◌}
use Rattle.std.proofs.lemmas.Bool.Decides.{nat_tests}
use mathlib.Core.Option.{none}
use lib.ListN.{get_elem?}
use Rattle.atomic_table.specs.Table.{State, Me, Act, keeps, takes, step, stepped}
use Rattle.atomic_table.specs.Table.{Allows, carried_after, Valid}
use Rattle.atomic_table.proofs.Lists.{set_here}
use Rattle.turn_lock.specs.declared.seat_view.SeatView.{SeatView}
use Rattle.turn_lock.specs.Handles.{IsPrefix}
use Rattle.turn_lock.specs.Rule.{At, KeepsRule, Numbers, Chain}
use Rattle.turn_lock.specs.Steps.{Draws, Looks, Follows, learned, is_at}
use Rattle.turn_lock.proofs.PlaceLemmas.{at_get, one_at, prefix_self}
use Rattle.turn_lock.proofs.NumberLemmas.{numbers_kept}
use Rattle.turn_lock.proofs.TicketLemmas.{tickets_kept, tickets_drawn}
use Rattle.turn_lock.proofs.ChainLemmas.{chain_still, chain_grown}
use Rattle.turn_lock.proofs.ValueLemmas.{nobody, place_drawn, place_out}
use Rattle.turn_lock.proofs.StepLemmas.{Owes, with_hand, unchanged, learned_keeps}

module _ {E O V : Type 0} (history : V → List E) (journal : V → List O) (caller : E → ℕ) where
  abbrev Lock : State (Option V) (SeatView E O) → Type 0
  Lock = KeepsRule history journal caller

  -- ---- a draw

  pub draws : (slots id : ℕ) (v : SeatView E O) (hand : List (ℕ × Option V)) → v.ticket ≡ None
      → is_some v.number ≡ true
      → Allows Lock slots id (v, hand) 0 (λ n. (n + 1) % 2 ^ 64)
      (Draws (step slots 0 1 0 none) (v, hand))
  draws slots id v hand free handle s R many at fits =
      subst
      (Owes history journal caller s id hand 0 (λ n. (n + 1) % 2 ^ 64)
      (Draws (step slots 0 1 0 none) (v, hand)))
      (sym R.words) (
        record v { ticket = Some R.next },
        keeps,
        tt,
        record {
          next = (R.next + 1) % 2 ^ 64;
          serving = R.serving;
          waiting = R.waiting + 1;
          past = R.past;
          log = R.log;
          words = refl;
          tickets = tickets_drawn s.views id v at R.next R.serving R.waiting free handle R.tickets;
          numbers = numbers_kept s.views id v at (record v { ticket = Some R.next }) refl refl
              (inl refl) R.numbers;
          chain = chain_still caller R.past R.log s.views id v at v.made (Some R.next) v.turn
              (λ has. has) R.chain;
          place = place_drawn history journal caller R.serving R.past R.log s.homes s.views id v at
              R.next free R.place;
        },
        (refl, refl),
      )

  -- ---- a look

  -- what is at home while a handle waits follows on what it has observed
  follows : (views : List (SeatView E O)) (id : ℕ) (v : SeatView E O) (past : List E) (log : List O)
      (y : V) (n : ℕ) → At views id v → v.number ≡ Some n → history y ≡ past → journal y ≡ log
      → Numbers views → Chain caller past log views → Follows history journal caller v y
  follows views id v past log y n at named is_past is_log N C =
      let author = λ (i : ℕ) (e : E) (here : At (history y) i e).
      C.authors i e (ap (λ (xs : List E). get_elem? xs i) (sym is_past) ∙ here) in record {
        later_history = let p = (C.prefix id v at).0 in (p.0, is_past ∙ p.1);
        later_journal = let p = (C.prefix id v at).1 in (p.0, is_log ∙ p.1);
        others = λ i e far here own.
            let a = author i e here in
            let same : a.place ≡ id = N.apart a.place id (caller e) a.view v a.at at a.number own in
            let is = one_at views id a.place v a.view at a.at (sym same) in
            let long = ap (λ (x : SeatView E O). length x.history) is in
            let lt = a.observed in omega arith;
        callers = λ i e here.
            let a = author i e here in
            let lt = (N.known a.place a.view a.at (caller e) a.number).0 in
            let mine = (N.known id v at n named).1 in omega arith;
      }

  -- an option that has something
  some_of : (o : Option ℕ) → is_some o ≡ true → (n : ℕ) × (o ≡ Some n)
  some_of None has = let no : false ≡ true = has in cc
  some_of (Some n) is = (n, refl)

  module _ (id t : ℕ) (v : SeatView E O) (ticket : v.ticket ≡ Some t) (waits : v.turn ≡ false) where
    -- a seat that it is the turn of
    abbrev called : V → SeatView E O
    called y = record (learned history journal caller v y) { turn = true }

    -- what a look tells, where b tells whether the ticket is being served
    abbrev Told : Bool → SeatView E O → List (ℕ × Option V) → Type 0
    Told b w hand = MatchBool b
        ((y : V) × (hand ≡ (0, Some y) ∷ []) × (w ≡ called y)
        × Follows history journal caller v y)
        (let before : Me (Option V) (SeatView E O) = (v, []) in
        let after : Me (Option V) (SeatView E O) = (w, hand) in after ≡ before)

    looks_at : (s : State (Option V) (SeatView E O)) → At s.views id v → 0 < length s.homes
        → (R : Lock s) → (b : Bool) → (t == R.serving) ≡ b
        → (w : SeatView E O) × (a : Act (Option V)) × Valid s.homes [] a
        × Lock (stepped (record {
          words = R.next ∷ R.serving ∷ length R.past ∷ [];
          homes = s.homes;
          views = s.views;
        }) 1 R.serving id [] w a)
        × Told b w (carried_after [] a)
    looks_at s at slot R true is =
        let mine : v.ticket ≡ Some R.serving = ticket ∙ ap Some (grind (arith, nat_tests)) in
        let none_has = nobody history journal caller R.serving R.past R.log s.homes s.views id v
        at R.next R.waiting mine waits R.tickets R.place in
        let home = R.place.home none_has in
        let y = home.0 in
        let w = called y in
        let handles = R.tickets.drawn_by_handles id v at (ap is_some ticket) in
        let number = some_of v.number handles in (
          w,
          takes 0 (Some y),
          home.1,
          record {
            next = R.next;
            serving = R.serving;
            waiting = R.waiting;
            past = history y;
            log = journal y;
            words = ap (λ (xs : List E). R.next ∷ R.serving ∷ length xs ∷ []) (sym home.2);
            tickets = tickets_kept s.views id v at R.next R.serving R.waiting w refl refl
                R.tickets;
            numbers = numbers_kept s.views id v at w refl refl (inl refl) R.numbers;
            chain = chain_grown caller R.past R.log s.views id v w at refl
                (subst (IsPrefix R.past) (sym home.2) (prefix_self R.past))
                (subst (IsPrefix R.log) (sym home.3) (prefix_self R.log))
                (λ i e far here. let lt = (at_get (history y) i e here).0 in
                let same = ap length home.2 in absurd (omega arith))
                (λ k x here other. none_has k x here)
                (learned_keeps history journal caller v y true) R.chain;
            place = place_out history journal caller R.serving R.past R.log s.homes s.views id v
                at w (history y) (journal y) (set s.homes 0 none) refl mine
                (set_here s.homes 0 none slot) (λ k x here other. none_has k x here);
          },
          (
            y,
            refl,
            refl,
            follows s.views id v R.past R.log y number.0 at number.1 home.2 home.3 R.numbers
                R.chain,
          ),
        )
    looks_at s at slot R false is =
        (v, keeps, tt, unchanged history journal caller s R id v at, refl)

    looks : (slots : ℕ) → 0 < slots → Allows Lock slots id (v, []) 1 (λ n. n)
        (Looks history journal caller (step slots 1 0 0 none) (v, []))
    looks slots slot s R many at fits =
        let at_serving : is_at v.ticket R.serving ≡ (t == R.serving) =
        ap (λ o. is_at o R.serving) ticket in
        let r = looks_at s at (omega arith) R (t == R.serving) refl in
        subst
        (Owes history journal caller s id [] 1 (λ n. n)
        (Looks history journal caller (step slots 1 0 0 none) (v, [])))
        (sym R.words) (r.0, r.1, r.2, r.3, rw at_serving r.4)

  pub looks_with : (slots id t : ℕ) (me : Me (Option V) (SeatView E O)) → me.0.ticket ≡ Some t
      → me.0.turn ≡ false → me.1 ≡ [] → 0 < slots
      → Allows Lock slots id me 1 (λ n. n)
      (Looks history journal caller (step slots 1 0 0 none) me)
  looks_with slots id t me ticket waits hand slot =
      with_hand history journal caller slots id 1 (λ n. n)
      (Looks history journal caller (step slots 1 0 0 none)) me [] hand
      (looks id t me.0 ticket waits slots slot)
