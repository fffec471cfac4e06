-- Tickets, where one seat draws, waits, or passes the turn on, and where one is added.
use Rattle.std.proofs.Common.{◌≡◌, ◌≢◌, ◌<◌, ◌≤◌, ◌+◌, ◌%◌, ◌^◌, ℕ, zero, suc, Bool, true, false}
use Rattle.std.proofs.Common.{cond, List, [], ◌∷◌, ◌++◌, set, Option, Some, None, refl, sym, ap}
use Rattle.std.proofs.Common.{◌∙◌, arith, add_assoc}
use Rattle.std.specs.Prelude.{is_some}
use Rattle.std.specs.List.{sum_by}
use Rattle.std.proofs.Math.Nat.{mod-add-mod}
use Rattle.std.proofs.lemmas.Option.{same_Some}
use Rattle.atomic_table.proofs.Lists.{one_turn}
use Rattle.turn_lock.specs.declared.seat_view.SeatView.{SeatView}
use Rattle.turn_lock.specs.Rule.{At, Waits, Tickets, has_ticket, has_number}
use Rattle.turn_lock.proofs.PlaceLemmas.{each_set, each_added, differ_set, differ_kept}
use Rattle.turn_lock.proofs.PlaceLemmas.{differ_added, sum_set, sum_kept, sum_added, sum_le}
use Rattle.turn_lock.proofs.NumberLemmas.{number_counts}

-- each ticket that a seat has waits among n
abbrev pub Stands : {E O : Type 0} → ℕ → ℕ → SeatView E O → Type 0
Stands serving n v = (t : ℕ) → v.ticket ≡ Some t → Waits serving n t

-- a seat with a ticket is a handle's
abbrev pub HasNumber : {E O : Type 0} → SeatView E O → Type 0
HasNumber v = is_some v.ticket ≡ true → is_some v.number ≡ true

ticket_counts : {E O : Type 0} (v : SeatView E O) (t : Option ℕ) → v.ticket ≡ t
    → has_ticket v ≡ cond (is_some t) 1 0
ticket_counts v t is = ap (λ (o : Option ℕ). cond (is_some o) 1 0) is

waits_more : (serving n t : ℕ) → Waits serving n t → Waits serving (n + 1) t
waits_more serving n t h = (h.0, omega arith, h.2)

-- a ticket that stands out isn't the next one
not_next : (serving n t : ℕ) → n ≤ 17 → Waits serving n t → t ≢ (serving + n) % 2 ^ 64
not_next serving n t few h same =
    let turned : (serving + h.0) % 2 ^ 64 ≡ (serving + n) % 2 ^ 64 = sym h.2 ∙ same in
    let one = one_turn (serving + h.0) (serving + n) (2 ^ 64) (omega arith) (omega arith) turned in
    omega arith

-- a ticket that isn't being served waits one place less once the turn is passed on
waits_less : (serving n t d : ℕ) → serving < 2 ^ 64 → t ≢ serving → d < n + 1
    → t ≡ (serving + d) % 2 ^ 64 → Waits ((serving + 1) % 2 ^ 64) n t
waits_less serving n t zero fits other lt is = absurd (other (omega arith))
waits_less serving n t (suc d) fits other lt is = (d, omega arith, omega arith)

one_if : (a b : Bool) → (a ≡ true → b ≡ true) → cond a 1 0 ≤ cond b 1 0
one_if true true h = omega arith
one_if true false h = let no : false ≡ true = h refl in cc
one_if false true h = omega arith
one_if false false h = omega arith

-- no more tickets stand out than there are handles
few_tickets : {E O : Type 0} (next serving n : ℕ) (views : List (SeatView E O))
    → Tickets next serving n views → n ≤ 17
few_tickets next serving n views T =
    let le = sum_le has_ticket has_number views
    (λ k x here. one_if (is_some x.ticket) (is_some x.number) (T.drawn_by_handles k x here)) in
    omega (arith, le, T.counted, T.few)

module _ {E O : Type 0} (views : List (SeatView E O)) (id : ℕ) (v : SeatView E O)
    (at : At views id v) (next serving n : ℕ) where
  -- the seat keeps its ticket and its number
  pub tickets_kept : (w : SeatView E O) → w.ticket ≡ v.ticket → w.number ≡ v.number
      → Tickets next serving n views → Tickets next serving n (set views id w)
  tickets_kept w ticket number T = record {
    span = T.span;
    within = each_set views id v w at (λ k x. Stands serving n x)
        (λ t is. T.within id v at t (sym ticket ∙ is)) (λ k x here other. T.within k x here);
    counted = sum_kept views id v w at has_ticket (ticket_counts w v.ticket ticket) ∙ T.counted;
    apart = differ_kept views id v w at (λ x. x.ticket) ticket T.apart;
    drawn_by_handles = each_set views id v w at (λ k x. HasNumber x)
        (λ has. ap is_some number ∙ T.drawn_by_handles id v at (ap is_some (sym ticket) ∙ has))
        (λ k x here other. T.drawn_by_handles k x here);
    few = let s = sum_kept views id v w at has_number (number_counts v w number) in
        omega (arith, s, T.few);
  }

  -- a handle's seat without a ticket draws the next one
  pub tickets_drawn : v.ticket ≡ None → is_some v.number ≡ true → Tickets next serving n views
      → Tickets ((next + 1) % 2 ^ 64) serving (n + 1)
      (set views id (record v { ticket = Some next }))
  tickets_drawn free handle T =
      let w : SeatView E O = record v { ticket = Some next } in record {
        span = rw T.span (mod-add-mod (serving + n) (2 ^ 64) 1
            ∙ ap (λ k. k % 2 ^ 64) (add_assoc serving n 1));
        within = each_set views id v w at (λ k x. Stands serving (n + 1) x)
            (λ t is. (n, omega arith, same_Some t next (sym is) ∙ T.span))
            (λ k x here other t is. waits_more serving n t (T.within k x here t is));
        counted = omega (
          arith,
          sum_set views id v w at has_ticket,
          T.counted,
          ticket_counts v None free,
        );
        apart = differ_set views id v w at (λ x. x.ticket)
            (λ k x t here other is now. not_next serving n t (few_tickets next serving n views T)
            (T.within k x here t is) (same_Some t next (sym now) ∙ T.span))
            T.apart;
        drawn_by_handles = each_set views id v w at (λ k x. HasNumber x) (λ has. handle)
            (λ k x here other. T.drawn_by_handles k x here);
        few = let s = sum_kept views id v w at has_number refl in omega (arith, s, T.few);
      }

  -- the seat whose ticket is being served gives it up
  pub tickets_passed : v.ticket ≡ Some serving → serving < 2 ^ 64 → Tickets next serving n views
      → (rest : ℕ) × Tickets next ((serving + 1) % 2 ^ 64) rest
      (set views id (record v { ticket = None; turn = false }))
  tickets_passed mine fits T =
      let w : SeatView E O = record v { ticket = None; turn = false } in
      let rest = sum_by has_ticket (set views id w) in
      let less : n ≡ rest + 1 =
      omega (
        arith,
        sum_set views id v w at has_ticket,
        T.counted,
        ticket_counts v (Some serving) mine,
      ) in (
        rest,
        record {
          span = T.span ∙ (ap (λ i. (serving + i) % 2 ^ 64) less ∙ omega arith);
          within = each_set views id v w at (λ k x. Stands ((serving + 1) % 2 ^ 64) rest x)
              (λ t is. let no : None ≡ Some t = is in cc)
              (λ k x here other t is. let old = T.within k x here t is in
              waits_less serving rest t old.0 fits
              (λ same. other (T.apart k id serving x v here at (is ∙ ap Some same) mine))
              (let lt = old.1 in omega arith) old.2);
          counted = refl;
          apart = differ_set views id v w at (λ x. x.ticket)
              (λ k x t here other is now. let no : None ≡ Some t = now in cc) T.apart;
          drawn_by_handles = each_set views id v w at (λ k x. HasNumber x)
              (λ has. let no : false ≡ true = has in cc)
              (λ k x here other. T.drawn_by_handles k x here);
          few = let s = sum_kept views id v w at has_number refl in omega (arith, s, T.few);
        },
      )

-- a seat without a ticket is added
pub tickets_added : {E O : Type 0} (views : List (SeatView E O)) (r : SeatView E O)
    (next serving n : ℕ)
    → r.ticket ≡ None → sum_by has_number views + has_number r ≤ 17 → Tickets next serving n views
    → Tickets next serving n (views ++ r ∷ [])
tickets_added views r next serving n free few T = record {
  span = T.span;
  within = each_added views r (λ k x. Stands serving n x)
      (λ t is. let no : None ≡ Some t = sym free ∙ is in cc) T.within;
  counted = omega (arith, sum_added views r has_ticket, T.counted, ticket_counts r None free);
  apart = differ_added views r (λ x. x.ticket)
      (λ k x t here is now. let no : None ≡ Some t = sym free ∙ now in cc) T.apart;
  drawn_by_handles = each_added views r (λ k x. HasNumber x)
      (λ has. let no : false ≡ true = sym (ap is_some free) ∙ has in cc) T.drawn_by_handles;
  few = omega (arith, sum_added views r has_number, few);
}
