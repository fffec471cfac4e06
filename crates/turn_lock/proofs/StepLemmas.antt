-- What a step of a seat owes, where the words and its hand are known.
use Rattle.std.proofs.Common.{◌≡◌, ℕ, Bool, List, []}
use Rattle.std.proofs.Common.{◌∷◌, length, set, Option, None, refl, sym}
use Rattle.std.proofs.Common.{subst, arith}
use Rattle.std.specs.Prelude.{slice_index}
use Rattle.atomic_table.specs.Table.{State, Me, Act, stepped}
use Rattle.atomic_table.specs.Table.{Allows, carried_after, Valid}
use Rattle.atomic_table.proofs.Lists.{set_again}
use Rattle.turn_lock.specs.declared.seat_view.SeatView.{SeatView}
use Rattle.turn_lock.specs.Rule.{At, KeepsBoth, KeepsRule}
use Rattle.turn_lock.specs.Steps.{learned}
use Rattle.turn_lock.proofs.PlaceLemmas.{at_get, prefix_self, prefix_of_nothing}

-- the value in a hand
abbrev pub value_of : {V : Type 0} → List (ℕ × Option V) → Option V
value_of [] = None
value_of (x ∷ xs) = x.1

module _ {E O V : Type 0} (history : V → List E) (journal : V → List O) (caller : E → ℕ) where
  abbrev pub Lock : State (Option V) (SeatView E O) → Type 0
  Lock = KeepsRule history journal caller

  -- what a step owes where the words are ws
  abbrev pub Owes : State (Option V) (SeatView E O) → ℕ → List (ℕ × Option V) → ℕ → (ℕ → ℕ)
      → (ℕ → Me (Option V) (SeatView E O) → Type 0) → List ℕ → Type 0
  Owes s id hand i f then ws =
      (w : SeatView E O) × (a : Act (Option V)) × Valid s.homes hand a
      × Lock (stepped (record { words = ws; homes = s.homes; views = s.views }) i
      (f (slice_index ws i)) id hand w a)
      × then (slice_index ws i) (w, carried_after hand a)

  -- a step of a seat is allowed if it is with the hand spelled out
  pub with_hand : (slots id i : ℕ) (f : ℕ → ℕ)
      (then : Me (Option V) (SeatView E O) → ℕ → Me (Option V) (SeatView E O) → Type 0)
      (me : Me (Option V) (SeatView E O)) (hand : List (ℕ × Option V)) → me.1 ≡ hand
      → Allows Lock slots id (me.0, hand) i f (then (me.0, hand))
      → Allows Lock slots id me i f (then me)
  with_hand slots id i f then me hand same allowed =
      let P : List (ℕ × Option V) → Type 0 = λ xs.
      let m : Me (Option V) (SeatView E O) = (me.0, xs) in Allows Lock slots id m i f (then m) in
      subst P (sym same) allowed

  -- a seat that has just observed a record has met nobody since
  pub learned_keeps : (v : SeatView E O) (y : V) (turn : Bool)
      → KeepsBoth caller (record (learned history journal caller v y) { turn = turn })
  learned_keeps v y turn = (
    prefix_self (history y),
    prefix_self (journal y),
    prefix_of_nothing (history y),
    prefix_of_nothing (journal y),
    λ i e far here is. let lt = (at_get (history y) i e here).0 in omega arith,
  )

  -- a step that changes nothing keeps the rule
  pub unchanged : (s : State (Option V) (SeatView E O)) (R : Lock s) (id : ℕ) (v : SeatView E O)
      → At s.views id v
      → Lock (record {
        words = R.next ∷ R.serving ∷ length R.past ∷ [];
        homes = s.homes;
        views = set s.views id v;
      })
  unchanged s R id v at =
      subst
      (λ (views : List (SeatView E O)). Lock (record {
        words = R.next ∷ R.serving ∷ length R.past ∷ [];
        homes = s.homes;
        views = views;
      }))
      (sym (set_again s.views id v at))
      (record {
        next = R.next;
        serving = R.serving;
        waiting = R.waiting;
        past = R.past;
        log = R.log;
        words = refl;
        tickets = R.tickets;
        numbers = R.numbers;
        chain = R.chain;
        place = R.place;
      })
