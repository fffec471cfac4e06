-- Handles and their numbers, where one seat changes or one is added.
use Rattle.std.proofs.Common.{◌≡◌, ◌<◌, ◌+◌, ℕ, cond, List, [], ◌∷◌, ◌++◌, set}
use Rattle.std.proofs.Common.{Option, Some, None, refl, sym, ap, ◌∙◌, arith, ⊎_elim, ◌⊎◌}
use Rattle.std.specs.Prelude.{is_some}
use Rattle.std.specs.List.{sum_by}
use Rattle.std.proofs.lemmas.Option.{same_Some}
use Rattle.turn_lock.specs.declared.seat_view.SeatView.{SeatView}
use Rattle.turn_lock.specs.Rule.{At, Each, Numbers, has_number}
use Rattle.turn_lock.specs.Steps.{fresh, maker_after, one_more}
use Rattle.turn_lock.proofs.PlaceLemmas.{each_set, each_added, differ_kept, differ_added}
use Rattle.turn_lock.proofs.PlaceLemmas.{sum_kept, sum_added}

-- a seat's number counts as 1, if it has one
pub number_counts : {E O : Type 0} (v w : SeatView E O) → w.number ≡ v.number
    → has_number w ≡ has_number v
number_counts v w same = ap (λ (n : Option ℕ). cond (is_some n) 1 0) same

-- a number that a seat has, where the lock has so many
abbrev pub Known : {E O : Type 0} → ℕ → SeatView E O → Type 0
Known seats v = (n : ℕ) → v.number ≡ Some n → (n < seats) × (v.seats ≡ seats)

-- a seat's number is below m
abbrev pub Below : {E O : Type 0} → ℕ → SeatView E O → Type 0
Below m v = (n : ℕ) → v.number ≡ Some n → n < m

-- the maker is the first seat, and has made all handles, of which there are so many
abbrev pub Makes : {E O : Type 0} → ℕ → ℕ → ℕ → SeatView E O → Type 0
Makes seats all k v = (m : ℕ) → v.made ≡ Some m → (k ≡ 0) × (all ≡ m) × (v.seats ≡ seats)

module _ {E O : Type 0} (views : List (SeatView E O)) (id : ℕ) (v : SeatView E O)
    (at : At views id v) where
  -- the seat keeps its number and what it made; how many handles there are matters to a handle and
  -- to the maker alone
  pub numbers_kept : (w : SeatView E O) → w.number ≡ v.number → w.made ≡ v.made
      → (w.seats ≡ v.seats) ⊎ ((v.number ≡ None) × (v.made ≡ None))
      → Numbers views → Numbers (set views id w)
  numbers_kept w number made seats N =
      let all = sum_kept views id v w at has_number (number_counts v w number) in record {
        seats = N.seats;
        known = each_set views id v w at (λ k x. Known N.seats x)
            (λ n is. let old = N.known id v at n (sym number ∙ is) in (
              old.0,
              ⊎_elim (λ same. same ∙ old.1)
                  (λ none. let no : None ≡ Some n = sym none.0 ∙ (sym number ∙ is) in cc) seats,
            ))
            (λ k x here other. N.known k x here);
        apart = differ_kept views id v w at (λ x. x.number) number N.apart;
        maker = each_set views id v w at
            (λ k x. Makes N.seats (sum_by has_number (set views id w)) k x)
            (λ m is. let old = N.maker id v at m (sym made ∙ is) in (
              old.0,
              all ∙ old.1,
              ⊎_elim (λ same. same ∙ old.2)
                  (λ none. let no : None ≡ Some m = sym none.1 ∙ (sym made ∙ is) in cc) seats,
            ))
            (λ k x here other m is. let old = N.maker k x here m is in (old.0, all ∙ old.1, old.2));
        below = λ m j x here is.
            let old : Each views (λ k y. Below m y) =
            each_set views id v w at (λ k y. y.made ≡ Some m → Each views (λ i z. Below m z))
            (λ now. N.below m id v at (sym made ∙ now))
            (λ k y there other now. N.below m k y there now)
            j x here is in
            each_set views id v w at (λ k y. Below m y)
            (λ n now. old id v at n (sym number ∙ now))
            (λ k y there other. old k y there);
      }

  -- the maker has made one handle more, and its seat is added
  pub numbers_cut : (m : ℕ) → v.made ≡ Some m → m < v.seats → Numbers views
      → Numbers (set views id (maker_after v) ++ fresh v.made v.seats ∷ [])
  numbers_cut m made room N =
      let w = maker_after v in
      let r : SeatView E O = fresh v.made v.seats in
      let after = set views id w in
      let mine = N.maker id v at m made in
      let number_of_new : (n : ℕ) → v.made ≡ Some n → n ≡ m =
      λ n is. same_Some n m (sym is ∙ made) in
      let below : Each after (λ k x. Below m x) =
      each_set views id v w at (λ k x. Below m x) (N.below m id v at made id v at)
      (λ k x here other. N.below m id v at made k x here) in
      let one : has_number r ≡ 1 = ap (λ (n : Option ℕ). cond (is_some n) 1 0) made in
      let all : sum_by has_number (after ++ r ∷ []) ≡ m + 1 =
      omega (
        arith,
        sum_added after r has_number,
        sum_kept views id v w at has_number refl,
        mine.1,
        one,
      ) in
      let made_now : (k : ℕ) (x : SeatView E O) → At (after ++ r ∷ []) k x → (n : ℕ)
      → x.made ≡ Some n → (k ≡ 0) × (n ≡ m + 1) × (x.seats ≡ N.seats) =
      each_added after r
      (λ k x. (n : ℕ) → x.made ≡ Some n → (k ≡ 0) × (n ≡ m + 1) × (x.seats ≡ N.seats))
      (λ n is. let no : None ≡ Some n = is in cc)
      (each_set views id v w at
      (λ k x. (n : ℕ) → x.made ≡ Some n → (k ≡ 0) × (n ≡ m + 1) × (x.seats ≡ N.seats))
      (λ n is. (mine.0, same_Some n (m + 1) (sym is ∙ ap one_more made), mine.2))
      (λ k x here other n is. absurd (other ((N.maker k x here n is).0 ∙ sym mine.0)))) in
      record {
        seats = N.seats;
        known = each_added after r (λ k x. Known N.seats x)
            (λ n is. ((let e = number_of_new n is in let s = mine.2 in omega arith), mine.2))
            (each_set views id v w at (λ k x. Known N.seats x) (N.known id v at)
            (λ k x here other. N.known k x here));
        apart = differ_added after r (λ x. x.number)
            (λ k x n here is is'. let e = number_of_new n is' in let lt = below k x here n is in
            absurd (omega arith))
            (differ_kept views id v w at (λ x. x.number) refl N.apart);
        maker = λ k x here n is.
            let now = made_now k x here n is in (now.0, all ∙ sym now.1, now.2);
        below = λ n j x here is. let now = (made_now j x here n is).1 in
            each_added after r (λ k y. Below n y)
            (λ i that. let e = number_of_new i that in omega arith)
            (λ k y there i that. let lt = below k y there i that in omega arith);
      }

-- a seat is added that is no handle's
pub numbers_added : {E O : Type 0} (views : List (SeatView E O)) (r : SeatView E O)
    → r.number ≡ None → r.made ≡ None → Numbers views → Numbers (views ++ r ∷ [])
numbers_added {E = E} {O = O} views r number made N =
    let all : sum_by has_number (views ++ r ∷ []) ≡ sum_by has_number views =
    (let zero : has_number r ≡ 0 = ap (λ (n : Option ℕ). cond (is_some n) 1 0) number in
    omega (arith, sum_added views r has_number, zero)) in
    let unmade : (m : ℕ) → r.made ≡ Some m → ⊥ =
    λ m is. let no : None ≡ Some m = sym made ∙ is in cc in
    let unnumbered : (n : ℕ) → r.number ≡ Some n → ⊥ =
    λ n is. let no : None ≡ Some n = sym number ∙ is in cc in record {
      seats = N.seats;
      known = each_added views r (λ k x. Known N.seats x) (λ n is. absurd (unnumbered n is))
          N.known;
      apart = differ_added views r (λ x. x.number) (λ k x n here is is'. unnumbered n is') N.apart;
      maker = each_added views r (λ k x. Makes N.seats (sum_by has_number (views ++ r ∷ [])) k x)
          (λ m is. absurd (unmade m is))
          (λ k x here m is. let old = N.maker k x here m is in (old.0, all ∙ old.1, old.2));
      below = λ m j x here is.
          let old : Each views (λ k y. Below m y) =
          each_added views r (λ k y. y.made ≡ Some m → Each views (λ i z. Below m z))
          (λ now. absurd (unmade m now))
          (λ k y there now. N.below m k y there now)
          j x here is in
          each_added views r (λ k y. Below m y) (λ n now. absurd (unnumbered n now)) old;
    }
