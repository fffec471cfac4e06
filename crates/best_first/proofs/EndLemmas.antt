-- The queue is empty: what the rows are, and what is true of the truncation point.
use Rattle.std.proofs.Common.{eqb-true, ◌≡◌, ◌≤◌, ◌<◌, ◌-◌, ◌⊎◌, inl, inr, ℕ, zero, suc, Bool, true}
use Rattle.std.proofs.Common.{false, cond, nat_eq, ◌&&◌, List, [], ◌∷◌, length, take, refl, sym, ap}
use Rattle.std.proofs.Common.{◌∙◌, subst, arith}
use Rattle.std.specs.List.{filter}
use Rattle.std.specs.Prelude.{Option, Some, None, slice_get, option_map}
use Rattle.std.proofs.lemmas.Bool.{and_parts}
use Rattle.sg_base.specs.ByteStrings.{begins, lacks}
use Rattle.sg_base.specs.Cuts.{PlainCut, precedes, cut_mark, row_mark}
use Rattle.sg_base.specs.Lists.{In}
use Rattle.sg_base.specs.Rows.{ranked}
use Rattle.sg_base.specs.declared.rank.Rank.{Rank}
use Rattle.sg_base.proofs.MarkLemmas.{mark_lt, precedes-down}
use Rattle.sg_paths.proofs.ByteLemmas.{lacks_parts}
use Rattle.sg_answers.proofs.TakingLemmas.{taken_at_most, filter_at_most}
use Rattle.path_desk.specs.Desks.{PlainDesk, is_before, cut_at}
use Rattle.path_desk.specs.Entries.{Queued, mark_of, key_part}
use Rattle.collector.proofs.RankingLemmas.{is_ranking-ranked}
use Rattle.best_first.specs.Ends.{last_row, is_done, IsCutShort}
use Rattle.best_first.specs.Listings.{IsListing}
use Rattle.best_first.specs.Matches.{Match, ranks_of}
use Rattle.best_first.specs.Progress.{IsFirst, Progress}
use Rattle.best_first.specs.Segments.{Between}
use Rattle.best_first.proofs.CompleteLemmas.{complete-empty, preceding-reached}
use Rattle.best_first.proofs.CutLemmas.{crowded, met, upto}
use Rattle.best_first.proofs.DoneLemmas.{between-progress, mark_at_most, last_row-some}
use Rattle.best_first.proofs.DoneLemmas.{last_row-none}
use Rattle.best_first.proofs.RowLemmas.{filter-take, fewer}

module _ (all : List Match) (P : Queued → Type 0) (reached : List Match) (starts k : ℕ)
    (d : PlainDesk) (rows : List Rank)
    (b : Between all P reached k d rows) (l : IsListing all starts) where
  abbrev pub s : Progress all P reached d.room [] d.waiting d.reached d.dropped None
  s = between-progress all P reached k d rows b

  -- the queue is empty

  nothing_left : d.waiting ≡ [] → d.dropped ≡ None → (e : Queued) → In e d.waiting ⊎ In e s.dropped
      → ⊥
  nothing_left w o e (inl i) = subst (λ z. In e z) w i
  nothing_left w o e (inr i) = subst (λ z. In e z) (subst (λ z. IsFirst s.dropped z) o s.is_first) i

  pub end-complete : d.waiting ≡ [] → d.dropped ≡ None → rows ≡ take k (ranked (ranks_of all))
  end-complete w o = b.kept ∙ complete-empty all P reached d.room starts d.waiting d.reached
      d.dropped s l k (nothing_left w o)

  module _ (f : Queued) (empty : d.waiting ≡ []) (dropped : d.dropped ≡ Some f) (generation : ℕ)
    where
      -- the truncation point
      abbrev cut : PlainCut
      cut = cut_at generation d.room f

      least : (e : Queued) → In e d.waiting ⊎ In e s.dropped
          → mark_lt (mark_of e) (cut_mark cut) ≡ false
      least e (inl i) = absurd (subst (λ z. In e z) empty i)
      least e (inr i) =
          let first : IsFirst s.dropped (Some f) =
          subst (λ z. IsFirst s.dropped z) dropped s.is_first in
          mark_at_most e f (first.1 e i)

      abbrev pre : Rank → Bool
      pre = precedes cut

      short_take : (n : ℕ) (xs : List Rank) → length (take n xs) < n → length xs ≤ n
      short_take zero xs h = absurd (omega arith)
      short_take (suc n) [] h = omega arith
      short_take (suc n) (x ∷ xs) h = let r = short_take n xs (omega arith) in omega (arith, r)

      get_in : (r : Rank) (n : ℕ) (xs : List Rank) → slice_get xs n ≡ Some r → In r xs
      get_in r n [] e = cc
      get_in r zero (x ∷ xs) e = inl (let t : Some r ≡ Some x = sym e in (let q : r ≡ x = cc in q))
      get_in r (suc n) (x ∷ xs) e = inr (get_in r n xs e)

      unsettled : (one : Bool) (w : Rank) → is_done one d (Some w) ≡ false → pre w ≡ false
      unsettled true w h = cc
      unsettled false w h =
          let q : is_before (row_mark w) d.dropped ≡ false =
          subst (λ z. (is_before (row_mark w) (slice_get z 0) && is_before (row_mark w) d.dropped)
          ≡ false) empty h in
          subst (λ z. is_before (row_mark w) z ≡ false) dropped q

      -- one of the kept rows doesn't precede, or there are fewer than k
      abbrev Fails : Type 0
      Fails = ((w : Rank) × In w rows × (pre w ≡ false)) ⊎ (length rows < k)

      fails_at : (one : Bool) (o : Option Rank) → last_row k rows ≡ o → is_done one d o ≡ false
          → (o ≡ None → length rows < k) → Fails
      fails_at one None e h none = inr (none refl)
      fails_at one (Some w) e h none =
          inl (w, get_in w (k - 1) rows (last_row-some k rows w e).1, unsettled one w h)

      fails : (one : Bool) → 1 ≤ k → is_done one d (last_row k rows) ≡ false → Fails
      fails one some h = fails_at one (last_row k rows) refl h
          (λ e. last_row-none k rows e some)

      rows_length : length rows ≤ k
      rows_length =
          let n : length rows ≡ length (take k (ranked (ranks_of reached))) = ap length b.kept in
          let m = taken_at_most k (ranked (ranks_of reached)) in
          omega (arith, n, m)

      few_at : Fails → length (filter pre rows) < k
      few_at (inl h) =
          let x = fewer pre h.0 rows h.1 h.2 in
          let y = rows_length in
          omega (arith, x, y)
      few_at (inr h) = let x = filter_at_most pre rows in omega (arith, x, h)

      front_at : Fails → filter pre (take k (ranked (ranks_of reached)))
          ≡ filter pre (ranked (ranks_of reached))
      front_at (inl h) =
          filter-take pre (precedes-down cut) k (ranked (ranks_of reached))
          (is_ranking-ranked (ranks_of reached)).ascending
          (inl (h.0, subst (λ z. In h.0 z) b.kept h.1, h.2))
      front_at (inr h) =
          let n : length rows ≡ length (take k (ranked (ranks_of reached))) = ap length b.kept in
          filter-take pre (precedes-down cut) k (ranked (ranks_of reached))
          (is_ranking-ranked (ranks_of reached)).ascending
          (inr (short_take k (ranked (ranks_of reached)) (omega (arith, n, h))))

      progress_at_end : Progress all P reached d.room [] [] d.reached (Some f) None
      progress_at_end = subst (λ o. Progress all P reached d.room [] [] d.reached o None) dropped
          (subst (λ ws. Progress all P reached d.room [] ws d.reached d.dropped None) empty s)

      pub end-cut : (prefix : List ℕ) → begins prefix (key_part f.bytes) ≡ true → (one : Bool)
          → 1 ≤ k → is_done one d (last_row k rows) ≡ false
          → IsCutShort all prefix starts k d.room generation (filter pre rows) cut
      end-cut prefix in_query one some h = record {
        in_query = in_query;
        preceding = ap (filter pre) b.kept ∙ front_at (fails one some h)
            ∙ preceding-reached all P reached d.room starts d.waiting d.reached d.dropped s l cut
            least;
        few = few_at (fails one some h);
        of_segment = refl;
        of_room = refl;
        crowded = crowded all P reached d.room starts d.reached f progress_at_end l;
        met = met all P reached d.room starts d.reached f progress_at_end l;
        up_to = upto all P reached d.room starts d.reached f progress_at_end l;
      }

pub none-dropped : (o : Option Queued) (generation room : ℕ)
    → None ≡ option_map (cut_at generation room) o → o ≡ None
none-dropped None generation room e = refl
none-dropped (Some f) generation room e = cc

pub some-dropped : (o : Option Queued) (generation room : ℕ) (cut : PlainCut)
    → Some cut ≡ option_map (cut_at generation room) o
    → (f : Queued) × (o ≡ Some f) × (cut ≡ cut_at generation room f)
some-dropped None generation room cut e = cc
some-dropped (Some f) generation room cut e =
    (f, refl, let q : cut ≡ cut_at generation room f = cc in q)

-- what is true of a truncation point is true of the one that a call gives
pub cut-short : (all : List Match) (prefix : List ℕ) (starts k room generation : ℕ)
    (rows rows' : List Rank) (cut : PlainCut) (f : Queued) → cut ≡ cut_at generation room f
    → rows' ≡ filter (precedes cut) rows
    → IsCutShort all prefix starts k room generation
    (filter (precedes (cut_at generation room f)) rows) (cut_at generation room f)
    → IsCutShort all prefix starts k room generation rows' cut
cut-short all prefix starts k room generation rows rows' cut f is qr h =
    subst (λ z. IsCutShort all prefix starts k room generation z cut) (sym qr)
    (subst (λ z. IsCutShort all prefix starts k room generation (filter (precedes z) rows) z)
    (sym is) h)

-- what begins so goes on to the end of its key bytes
whole_key : (prefix bytes : List ℕ) → lacks 0 prefix ≡ true → begins prefix bytes ≡ true
    → begins prefix (key_part bytes) ≡ true
whole_key [] bytes n h = refl
whole_key (x ∷ prefix) [] n h = cc
whole_key (x ∷ prefix) (y ∷ bytes) n h =
    let l = lacks_parts 0 x prefix n in
    let r = and_parts (nat_eq x y) (begins prefix bytes) h in
    at_y (nat_eq y 0) refl l.0 r.0 (whole_key prefix bytes l.1 r.1)
  where
    at_y : (c : Bool) → nat_eq y 0 ≡ c → (x ≡ 0 → ⊥) → nat_eq x y ≡ true
        → begins prefix (key_part bytes) ≡ true
        → begins (x ∷ prefix) (cond c [] (y ∷ key_part bytes)) ≡ true
    at_y true e n q more = absurd (n (eqb-true x y q ∙ eqb-true y 0 e))
    at_y false e n q more = rw q more

-- an entry's key bytes begin with the query's key
pub begins-query : (prefix : List ℕ) (f : Queued) → lacks 0 prefix ≡ true
    → begins prefix f.bytes ≡ true → begins prefix (key_part f.bytes) ≡ true
begins-query prefix f n h = whole_key prefix f.bytes n h

-- what was dropped is over a node
pub dropped-over : (all : List Match) (P : Queued → Type 0) (reached : List Match) (k : ℕ)
    (d : PlainDesk) (rows : List Rank) → Between all P reached k d rows → (f : Queued)
    → d.dropped ≡ Some f → P f
dropped-over all P reached k d rows b f e =
    let p = b.searching.progress in
    let first : IsFirst p.dropped (Some f) = subst (λ z. IsFirst p.dropped z) e p.is_first in
    (p.left_sound f (inr (inr first.0))).1
