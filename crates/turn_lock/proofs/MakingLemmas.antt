-- A new table keeps the rule, and so does making a handle.
use Rattle.std.proofs.Common.{◌≡◌, ◌<◌, ℕ, cond, false, true, List, [], ◌∷◌}
use Rattle.std.proofs.Common.{set, Option, Some, None, refl, sym, ap, ◌∙◌, subst, arith}
use Rattle.std.proofs.Common.{inl, ⊎_elim}
use Rattle.std.specs.Prelude.{is_some}
use Rattle.std.specs.List.{sum_by}
use Rattle.std.proofs.lemmas.List.Sums.{sum_by-cons}
use Rattle.std.proofs.lemmas.Option.{same_Some}
use mathlib.Core.Option.{some, none, some-ne-none}
use Rattle.atomic_table.specs.Table.{Splits, opening}
use Rattle.turn_lock.specs.declared.seat_view.SeatView.{SeatView}
use Rattle.turn_lock.specs.Handles.{IsPrefix}
use Rattle.turn_lock.specs.Rule.{At, Each, InLine, KeepsBoth, KeepsRule, Waits, has_ticket}
use Rattle.turn_lock.specs.Rule.{has_number}
use Rattle.turn_lock.specs.Steps.{fresh, maker, maker_after}
use Rattle.turn_lock.proofs.PlaceLemmas.{at_end, sum_kept, prefix_of_nothing}
use Rattle.turn_lock.proofs.NumberLemmas.{numbers_cut}
use Rattle.turn_lock.proofs.TicketLemmas.{tickets_kept, tickets_added}
use Rattle.turn_lock.proofs.ChainLemmas.{chain_still, chain_added}
use Rattle.turn_lock.proofs.ValueLemmas.{place_kept, place_added}

module _ {E O V : Type 0} (history : V → List E) (journal : V → List O) (caller : E → ℕ) where
  -- a handle is cut from the maker
  pub cuts : (id m : ℕ) (v : SeatView E O) → v.made ≡ Some m → m < v.seats → m < 17
      → Splits (KeepsRule history journal caller) id v (maker_after v) (fresh v.made v.seats)
  cuts id m v made room few s R at =
      let w = maker_after v in
      let r : SeatView E O = fresh v.made v.seats in
      let after = set s.views id w in
      let one : has_number r ≡ 1 = ap (λ (n : Option ℕ). cond (is_some n) 1 0) made in
      let all = (R.numbers.maker id v at m made).1 in
      let still = chain_still caller R.past R.log s.views id v at w.made v.ticket v.turn
      (λ has. has) R.chain in record {
        next = R.next;
        serving = R.serving;
        waiting = R.waiting;
        past = R.past;
        log = R.log;
        words = R.words;
        tickets = tickets_added after r R.next R.serving R.waiting refl
            (omega (arith, sum_kept s.views id v w at has_number refl, all, one))
            (tickets_kept s.views id v at R.next R.serving R.waiting w refl refl R.tickets);
        numbers = numbers_cut s.views id v at m made room R.numbers;
        chain = chain_added caller R.past R.log after r (record {
          prefix = (prefix_of_nothing R.past, prefix_of_nothing R.log);
          in_line = λ k x here. inl (prefix_of_nothing x.history, prefix_of_nothing x.journal);
          meetings = (
            prefix_of_nothing [],
            prefix_of_nothing [],
            prefix_of_nothing [],
            prefix_of_nothing [],
            λ i e far here own. absurd (some-ne-none e (sym here)),
          );
          whole = λ (no : false ≡ true). cc;
        }) still;
        place = place_added history journal caller R.serving R.past R.log s.homes after r refl
            (place_kept history journal caller R.serving R.past R.log s.homes s.views id v at w refl
            refl R.place);
      }

  -- the one seat of a new table
  only : (v : SeatView E O) (k : ℕ) (x : SeatView E O) → At (v ∷ []) k x → (k ≡ 0) × (v ≡ x)
  only v k x here = ⊎_elim (λ h. absurd (some-ne-none x (sym h))) (λ h. h) (at_end [] v x k here)

  each_only : (v : SeatView E O) (P : ℕ → SeatView E O → Type 0) → P 0 v → Each (v ∷ []) P
  each_only v P now k x here =
      let is = only v k x here in subst (P k) is.1 (subst (λ i. P i v) (sym is.0) now)

  sum_only : (f : SeatView E O → ℕ) (v : SeatView E O) → f v ≡ 0 → sum_by f (v ∷ []) ≡ 0
  sum_only f v none_there = omega (arith, sum_by-cons f v [], none_there)

  -- a table with the value at home, and the one seat that makes the handles
  pub opens : (seats : ℕ) (y : V) → history y ≡ [] → journal y ≡ []
      → KeepsRule history journal caller (opening (0 ∷ 0 ∷ 0 ∷ []) (Some y ∷ []) (maker seats))
  opens seats y no_past no_log =
      let v : SeatView E O = maker seats in
      let none_numbered : sum_by has_number (v ∷ []) ≡ 0 = sum_only has_number v refl in record {
        next = 0;
        serving = 0;
        waiting = 0;
        past = [];
        log = [];
        words = refl;
        tickets = record {
          span = refl;
          within = each_only v (λ k x. (t : ℕ) → x.ticket ≡ Some t → Waits 0 0 t)
              (λ t is. let no : None ≡ Some t = is in cc);
          counted = sum_only has_ticket v refl;
          apart = λ j k b x z here there is is'. (only v j x here).0 ∙ sym (only v k z there).0;
          drawn_by_handles = each_only v (λ k x. is_some x.ticket ≡ true → is_some x.number ≡ true)
              (λ (no : false ≡ true). cc);
          few = omega arith;
        };
        numbers = record {
          seats = seats;
          known = each_only v (λ k x. (n : ℕ) → x.number ≡ Some n → (n < seats) × (x.seats ≡ seats))
              (λ n is. let no : None ≡ Some n = is in cc);
          apart = λ j k b x z here there is is'. (only v j x here).0 ∙ sym (only v k z there).0;
          maker = each_only v
              (λ k x. (m : ℕ) → x.made ≡ Some m
              → (k ≡ 0) × (sum_by has_number (v ∷ []) ≡ m) × (x.seats ≡ seats))
              (λ m is. (refl, none_numbered ∙ same_Some 0 m is, refl));
          below = λ m j x here is. each_only v (λ k z. (n : ℕ) → z.number ≡ Some n → n < m)
              (λ n now. let no : None ≡ Some n = now in cc);
        };
        chain = record {
          prefix = each_only v (λ k x. IsPrefix x.history [] × IsPrefix x.journal [])
              (prefix_of_nothing [], prefix_of_nothing []);
          in_line = λ j k x z here there. each_only v (λ i u. InLine u z)
              (inl (prefix_of_nothing z.history, prefix_of_nothing z.journal)) j x here;
          authors = λ i e here. absurd (some-ne-none e (sym here));
          meetings = each_only v (λ k x. KeepsBoth caller x) (
            prefix_of_nothing [],
            prefix_of_nothing [],
            prefix_of_nothing [],
            prefix_of_nothing [],
            λ i e far here own. absurd (some-ne-none e (sym here)),
          );
          whole = each_only v (λ k x. x.turn ≡ true → (x.history ≡ []) × (x.journal ≡ []))
              (λ (no : false ≡ true). cc);
        };
        place = record {
          at_turn = each_only v (λ k x. x.turn ≡ true → x.ticket ≡ Some 0)
              (λ (no : false ≡ true). cc);
          away = each_only v (λ k x. x.turn ≡ true → At (some (Some y) ∷ []) 0 none)
              (λ (no : false ≡ true). cc);
          home = λ none_has. (y, refl, no_past, no_log);
        };
      }

  -- the same where the slots are a list that is known to be this one
  pub opens_with : (seats : ℕ) (y : V) → history y ≡ [] → journal y ≡ [] → (slots : List (Option V))
      → slots ≡ Some y ∷ []
      → KeepsRule history journal caller (opening (0 ∷ 0 ∷ 0 ∷ []) slots (maker seats))
  opens_with seats y no_past no_log slots is =
      subst (λ (xs : List (Option V)). KeepsRule history journal caller
      (opening (0 ∷ 0 ∷ 0 ∷ []) xs (maker seats))) (sym is) (opens seats y no_past no_log)
