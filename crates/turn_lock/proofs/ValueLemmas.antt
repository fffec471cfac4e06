-- Where the value is, where one seat changes or one is added.
use Rattle.std.proofs.Common.{◌≡◌, ◌≢◌, ◌<◌, ℕ, Bool, true, false, List, [], ◌∷◌, ◌++◌, length, set}
use Rattle.std.proofs.Common.{Option, Some, None, refl, sym, ◌∙◌}
use mathlib.Core.Option.{Option as Opt, some, none}
use Rattle.atomic_table.proofs.Lists.{set_here, at_longer}
use Rattle.turn_lock.specs.declared.seat_view.SeatView.{SeatView}
use Rattle.turn_lock.specs.Rule.{At, Each, Tickets, Place}
use Rattle.turn_lock.proofs.PlaceLemmas.{here_now, each_set, each_before, each_added}

-- a seat with the turn has the ticket that is being served
abbrev pub Serves : {E O : Type 0} → ℕ → SeatView E O → Type 0
Serves serving v = v.turn ≡ true → v.ticket ≡ Some serving

never_true : (b : Bool) → (b ≡ true → ⊥) → b ≡ false
never_true true never = absurd (never refl)
never_true false never = refl

module _ {E O V : Type 0} (history : V → List E) (journal : V → List O) (caller : E → ℕ)
    (serving : ℕ) (past : List E) (log : List O) (homes : List (Opt (Option V)))
    (views : List (SeatView E O)) where
  -- the slot is away, if the seat has the turn
  abbrev pub Away : List (Opt (Option V)) → SeatView E O → Type 0
  Away slots v = v.turn ≡ true → At slots 0 none

  module _ (id : ℕ) (v : SeatView E O) (at : At views id v) where
    -- where it has the turn, no other has
    pub alone : (next waiting : ℕ) → v.ticket ≡ Some serving → Tickets next serving waiting views
        → Place history journal caller serving past log homes views
        → (k : ℕ) (x : SeatView E O) → At views k x → k ≢ id → x.turn ≡ false
    alone next waiting mine T P k x here other = never_true x.turn
        (λ has. other (T.apart k id serving x v here at (P.at_turn k x here has) mine))

    -- where it waits for the ticket that is being served, none has
    pub nobody : (next waiting : ℕ) → v.ticket ≡ Some serving → v.turn ≡ false
        → Tickets next serving waiting views
        → Place history journal caller serving past log homes views
        → Each views (λ k x. x.turn ≡ false)
    nobody next waiting mine waits T P = each_before views id v v at (λ k x. x.turn ≡ false) waits
        (each_set views id v v at (λ k x. x.turn ≡ false) waits (alone next waiting mine T P))

    -- the seat keeps its ticket and its turn
    pub place_kept : (w : SeatView E O) → w.ticket ≡ v.ticket → w.turn ≡ v.turn
        → Place history journal caller serving past log homes views
        → Place history journal caller serving past log homes (set views id w)
    place_kept w ticket turn P = record {
      at_turn = each_set views id v w at (λ k x. Serves serving x)
          (λ has. ticket ∙ P.at_turn id v at (sym turn ∙ has))
          (λ k x here other. P.at_turn k x here);
      away = each_set views id v w at (λ k x. Away homes x)
          (λ has. P.away id v at (sym turn ∙ has)) (λ k x here other. P.away k x here);
      home = λ none_has. P.home (each_before views id v w at (λ k x. x.turn ≡ false)
          (sym turn ∙ none_has id w (here_now views id v w at)) none_has);
    }

    -- a seat that had no ticket has one
    pub place_drawn : (t : ℕ) → v.ticket ≡ None
        → Place history journal caller serving past log homes views
        → Place history journal caller serving past log homes
        (set views id (record v { ticket = Some t }))
    place_drawn t free P =
        let w : SeatView E O = record v { ticket = Some t } in
        let no_turn : v.turn ≡ true → ⊥ =
        λ has. let no : None ≡ Some serving = sym free ∙ P.at_turn id v at has in cc in record {
          at_turn = each_set views id v w at (λ k x. Serves serving x)
              (λ has. absurd (no_turn has)) (λ k x here other. P.at_turn k x here);
          away = each_set views id v w at (λ k x. Away homes x)
              (λ has. absurd (no_turn has)) (λ k x here other. P.away k x here);
          home = λ none_has. P.home (each_before views id v w at (λ k x. x.turn ≡ false)
              (never_true v.turn no_turn) none_has);
        }

    -- the seat alone has the turn, and the slot is away: whatever the record is
    pub place_out : (w : SeatView E O) (past' : List E) (log' : List O)
        (homes' : List (Opt (Option V))) → w.turn ≡ true → w.ticket ≡ Some serving
        → At homes' 0 none → ((k : ℕ) (x : SeatView E O) → At views k x → k ≢ id → x.turn ≡ false)
        → Place history journal caller serving past' log' homes' (set views id w)
    place_out w past' log' homes' turn ticket away others = record {
      at_turn = each_set views id v w at (λ k x. Serves serving x) (λ has. ticket)
          (λ k x here other has. let no : true ≡ false = sym has ∙ others k x here other in cc);
      away = each_set views id v w at (λ k x. Away homes' x) (λ has. away)
          (λ k x here other has. let no : true ≡ false = sym has ∙ others k x here other in cc);
      home = λ none_has.
          let no : true ≡ false = sym turn ∙ none_has id w (here_now views id v w at) in cc;
    }

    -- no seat has the turn, and the value is at home
    pub place_home : (w : SeatView E O) (serving' : ℕ) (y : V) → w.turn ≡ false
        → 0 < length homes → history y ≡ past → journal y ≡ log
        → ((k : ℕ) (x : SeatView E O) → At views k x → k ≢ id → x.turn ≡ false)
        → Place history journal caller serving' past log (set homes 0 (some (Some y)))
        (set views id w)
    place_home w serving' y turn slot is_past is_log others =
        let none_has : Each (set views id w) (λ k x. x.turn ≡ false) =
        each_set views id v w at (λ k x. x.turn ≡ false) turn others in record {
          at_turn = λ k x here has. let no : true ≡ false = sym has ∙ none_has k x here in cc;
          away = λ k x here has. let no : true ≡ false = sym has ∙ none_has k x here in cc;
          home = λ still. (y, set_here homes 0 (some (Some y)) slot, is_past, is_log);
        }

  -- a seat without the turn is added
  pub place_added : (r : SeatView E O) → r.turn ≡ false
      → Place history journal caller serving past log homes views
      → Place history journal caller serving past log homes (views ++ r ∷ [])
  place_added r turn P = record {
    at_turn = each_added views r (λ k x. Serves serving x)
        (λ has. let no : true ≡ false = sym has ∙ turn in cc) P.at_turn;
    away = each_added views r (λ k x. Away homes x)
        (λ has. let no : true ≡ false = sym has ∙ turn in cc) P.away;
    home = λ none_has. P.home (λ k x here. none_has k x (at_longer views (r ∷ []) k x here));
  }
