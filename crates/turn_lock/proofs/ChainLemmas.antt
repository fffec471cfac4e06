-- The one history and what each seat has observed of it, where one seat changes or one is added.
use Rattle.std.proofs.Common.{◌≡◌, ◌≢◌, ◌≤◌, ℕ, Bool, true, false, List, [], ◌∷◌, ◌++◌}
use Rattle.std.proofs.Common.{length, set, Option, Some, None, refl, sym, ap, ◌∙◌, arith}
use Rattle.std.proofs.Common.{inl, inr, ⊎_elim, ◌⊎◌}
use lib.ListN.{get_elem?}
use Rattle.atomic_table.proofs.Lists.{set_else, at_longer}
use Rattle.turn_lock.specs.declared.seat_view.SeatView.{SeatView}
use Rattle.turn_lock.specs.Handles.{IsPrefix}
use Rattle.turn_lock.specs.Rule.{At, Each, InLine, KeepsBoth, Author, Chain}
use Rattle.turn_lock.proofs.PlaceLemmas.{same_or_not, at_get, one_at, at_both, here_now, each_set}
use Rattle.turn_lock.proofs.PlaceLemmas.{each_added, prefix_self, prefix_on, prefix_length}

-- what a seat has observed is a prefix of the record
abbrev pub Within : {E O : Type 0} → List E → List O → SeatView E O → Type 0
Within past log v = IsPrefix v.history past × IsPrefix v.journal log

-- it is the whole record, if the seat has the turn
abbrev pub Whole : {E O : Type 0} → List E → List O → SeatView E O → Type 0
Whole past log v = v.turn ≡ true → (v.history ≡ past) × (v.journal ≡ log)

swapped : {E O : Type 0} (v w : SeatView E O) → InLine v w → InLine w v
swapped v w line = ⊎_elim (λ a. inr a) (λ b. inl b) line

module _ {E O : Type 0} (caller : E → ℕ) (past : List E) (log : List O)
    (views : List (SeatView E O)) where
  -- a seat that may stand beside the others
  pub record Fits (w : SeatView E O) : Type 0 where
    pub prefix : Within past log w
    pub in_line : Each views (λ k x. InLine w x)
    pub meetings : KeepsBoth caller w
    pub whole : Whole past log w

  module _ (id : ℕ) (v w : SeatView E O) (at : At views id v) (number : w.number ≡ v.number) where
    author_kept : (v.number ≡ None) ⊎ (length v.history ≤ length w.history)
        → (i : ℕ) (e : E) → Author caller views i e → Author caller (set views id w) i e
    author_kept stays i e a = ⊎_elim
        (λ same.
        let is = one_at views id a.place v a.view at a.at (sym same) in
        let named : v.number ≡ Some (caller e) =
        ap (λ (x : SeatView E O). x.number) is ∙ a.number in
        record {
          place = id;
          view = w;
          at = here_now views id v w at;
          number = number ∙ named;
          observed = ⊎_elim
              (λ none. let no : None ≡ Some (caller e) = sym none ∙ named in cc)
              (λ le. let long = ap (λ (x : SeatView E O). length x.history) is in
              let lt = a.observed in omega arith)
              stays;
        })
        (λ other. record {
          place = a.place;
          view = a.view;
          at = set_else views id a.place w other ∙ a.at;
          number = a.number;
          observed = a.observed;
        })
        (same_or_not a.place id)

    -- the seat now has another prefix of the record, none shorter if it is a handle's
    pub chain_moved : (v.number ≡ None) ⊎ (length v.history ≤ length w.history) → Fits w
        → Chain caller past log views → Chain caller past log (set views id w)
    chain_moved stays F C = record {
      prefix = each_set views id v w at (λ k x. Within past log x) F.prefix
          (λ k x here other. C.prefix k x here);
      in_line = λ j k x y here there.
          each_set views id v w at (λ i z. InLine z y)
          (each_set views id v w at (λ i z. InLine w z)
          (inl (prefix_self w.history, prefix_self w.journal))
          (λ i z that other. F.in_line i z that) k y there)
          (λ i z that other. each_set views id v w at (λ l u. InLine z u)
          (swapped w z (F.in_line i z that))
          (λ l u those others. C.in_line i l z u that those) k y there)
          j x here;
      authors = λ i e here. author_kept stays i e (C.authors i e here);
      meetings = each_set views id v w at (λ k x. KeepsBoth caller x) F.meetings
          (λ k x here other. C.meetings k x here);
      whole = each_set views id v w at (λ k x. Whole past log x) F.whole
          (λ k x here other. C.whole k x here);
    }

    -- the seat has observed the whole record, grown by events of its own, and no other has the turn
    pub chain_grown : IsPrefix past w.history → IsPrefix log w.journal
        → ((i : ℕ) (e : E) → length past ≤ i → At w.history i e → v.number ≡ Some (caller e))
        → ((k : ℕ) (x : SeatView E O) → At views k x → k ≢ id → x.turn ≡ false)
        → KeepsBoth caller w → Chain caller past log views
        → Chain caller w.history w.journal (set views id w)
    chain_grown grown grown_log own alone keeps C =
        let on : (x : SeatView E O) → Within past log x → Within w.history w.journal x =
        λ x old. (
          prefix_on x.history past w.history old.0 grown,
          prefix_on x.journal log w.journal old.1 grown_log,
        ) in
        let within : Each (set views id w) (λ k x. Within w.history w.journal x) =
        each_set views id v w at (λ k x. Within w.history w.journal x)
        (prefix_self w.history, prefix_self w.journal)
        (λ k x here other. on x (C.prefix k x here)) in
        let longer : length v.history ≤ length w.history =
        prefix_length v.history w.history (on v (C.prefix id v at)).0 in record {
          prefix = within;
          in_line = λ j k x y here there.
              each_set views id v w at (λ i z. InLine z y) (inr (within k y there))
              (λ i z that other. each_set views id v w at (λ l u. InLine z u)
              (inl (on z (C.prefix i z that)))
              (λ l u those others. C.in_line i l z u that those) k y there)
              j x here;
          authors = λ i e here. ⊎_elim
              (λ old. author_kept (inr longer) i e (C.authors i e old))
              (λ new. record {
                place = id;
                view = w;
                at = here_now views id v w at;
                number = number ∙ own i e (let m = new.1 in omega arith) here;
                observed = (at_get w.history i e here).0;
              })
              (at_both past grown.0 i e (ap (λ (l : List E). get_elem? l i) (sym grown.1) ∙ here));
          meetings = each_set views id v w at (λ k x. KeepsBoth caller x) keeps
              (λ k x here other. C.meetings k x here);
          whole = each_set views id v w at (λ k x. Whole w.history w.journal x)
              (λ has. (refl, refl))
              (λ k x here other has. let no : true ≡ false = sym has ∙ alone k x here other in cc);
        }

  -- the seat has observed what it had, and has no new turn
  pub chain_still : (id : ℕ) (v : SeatView E O) → At views id v → (made ticket : Option ℕ)
      (turn : Bool)
      → (turn ≡ true → v.turn ≡ true) → Chain caller past log views
      → Chain caller past log
      (set views id (record v { made = made; ticket = ticket; turn = turn }))
  chain_still id v at made ticket turn old C =
      chain_moved id v (record v { made = made; ticket = ticket; turn = turn }) at refl
      (inr (omega arith))
      (record {
        prefix = C.prefix id v at;
        in_line = λ k x here. C.in_line id k v x at here;
        meetings = C.meetings id v at;
        whole = λ has. C.whole id v at (old has);
      })
      C

  -- a seat is added
  pub chain_added : (r : SeatView E O) → Fits r → Chain caller past log views
      → Chain caller past log (views ++ r ∷ [])
  chain_added r F C = record {
    prefix = each_added views r (λ k x. Within past log x) F.prefix C.prefix;
    in_line = λ j k x y here there.
        each_added views r (λ i z. InLine z y)
        (each_added views r (λ i z. InLine r z)
        (inl (prefix_self r.history, prefix_self r.journal)) F.in_line k y there)
        (λ i z that. each_added views r (λ l u. InLine z u)
        (swapped r z (F.in_line i z that))
        (λ l u those. C.in_line i l z u that those) k y there)
        j x here;
    authors = λ i e here. let a = C.authors i e here in record {
      place = a.place;
      view = a.view;
      at = at_longer views (r ∷ []) a.place a.view a.at;
      number = a.number;
      observed = a.observed;
    };
    meetings = each_added views r (λ k x. KeepsBoth caller x) F.meetings C.meetings;
    whole = each_added views r (λ k x. Whole past log x) F.whole C.whole;
  }
