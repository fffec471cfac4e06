-- With one start a search is truncated exactly where the next path after the room is needed, and at
-- that path.
use Rattle.std.proofs.Common.{◌≡◌, ◌≤◌, ◌<◌, ◌⊎◌, inl, inr, ℕ, zero, suc, Bool, true, false, List}
use Rattle.std.proofs.Common.{[], ◌∷◌, ◌++◌, length, take, drop, refl, sym, ap, ◌∙◌, subst, arith}
use Rattle.std.specs.Prelude.{Option, Some, None}
use Rattle.sg_base.specs.Cuts.{PlainCut}
use Rattle.sg_base.specs.Lists.{In}
use Rattle.sg_base.specs.Rows.{ranked}
use Rattle.sg_base.specs.declared.rank.Rank.{Rank}
use Rattle.path_desk.specs.Desks.{PlainDesk, cut_at}
use Rattle.path_desk.specs.Entries.{Queued}
use Rattle.best_first.specs.Ends.{last_row, is_done}
use Rattle.best_first.specs.Exact.{IsInOrder, IsExact}
use Rattle.best_first.specs.Listings.{IsListing}
use Rattle.best_first.specs.Matches.{Match, ranks_of}
use Rattle.best_first.specs.Progress.{IsFirst, Progress}
use Rattle.best_first.specs.Segments.{Between}
use Rattle.best_first.proofs.CompleteLemmas.{reached_or_left, in-ranks_of, ranks_of-in}
use Rattle.best_first.proofs.DoneLemmas.{between-progress, last_row-none, last_row-some}
use Rattle.best_first.proofs.DoneLemmas.{taken_length}
use Rattle.best_first.proofs.OrderLemmas.{reached_is, reached_fits}
use Rattle.best_first.proofs.PrefixLemmas.{never_before_itself, in_drop, take_before_drop}
use Rattle.best_first.proofs.PrefixLemmas.{take_of_append, in_take_more}
use Rattle.best_first.proofs.RowLemmas.{ranked-within, ranked-more}
use Rattle.best_first.proofs.ShortLemmas.{exact-cut}

module _ (all order : List Match) (P : Queued → Type 0) (reached : List Match) (starts k : ℕ)
    (d : PlainDesk) (rows : List Rank)
    (b : Between all P reached k d rows) (l : IsListing all starts) (one : starts ≤ 1)
    (o : IsInOrder all order) where
  abbrev p : Progress all P reached d.room [] d.waiting d.reached d.dropped None
  p = between-progress all P reached k d rows b

  drop_of_append : (firsts rest : List Match) (n : ℕ) → length firsts ≡ n
      → drop n (firsts ++ rest) ≡ rest
  drop_of_append [] rest zero e = refl
  drop_of_append [] rest (suc n) e = absurd (omega arith)
  drop_of_append (x ∷ firsts) rest zero e = absurd (omega arith)
  drop_of_append (x ∷ firsts) rest (suc n) e = drop_of_append firsts rest n (omega arith)

  -- all are reached: there is no next path
  pub exact-empty : ((e : Queued) → In e d.waiting ⊎ In e p.dropped → ⊥)
      → IsExact order k d.room None
  exact-empty none next h =
      let rest : drop d.room order ≡ next ∷ h.after =
      ap (drop d.room) h.is ∙ drop_of_append h.first (next ∷ h.after) d.room h.as_many in
      let in_rest : In next (drop d.room order) = subst (λ z. In next z) (sym rest) (inl refl) in
      let i : In next reached =
      elim (reached_or_left all P reached d.room starts d.waiting d.reached d.dropped p l next
      (o.from next (in_drop next d.room order in_rest))) as (λ _. In next reached) [
        | inl j ↦ j
        | inr w ↦ absurd (none w.0 w.1)
      ] in
      never_before_itself next (take_before_drop next next d.room order o.rising
      (in_take_more next (length reached) d.room order
      (reached_fits all order P reached starts k d rows b l one o)
      ((reached_is all order P reached starts k d rows b l one o next).1 i))
      in_rest)

  -- k rows are kept: the first paths belong to k documents
  pub exact-done : k ≤ length (ranked (ranks_of reached)) → IsExact order k d.room None
  exact-done long next h =
      let firsts : take d.room order ≡ h.first =
      ap (take d.room) h.is ∙ take_of_append h.first (next ∷ h.after) d.room h.as_many in
      let sub : (r : Rank) → In r (ranks_of reached) → In r (ranks_of h.first) =
      λ r i. let n = in-ranks_of r reached i in
      subst (λ z. In z (ranks_of h.first)) (sym n.3)
      (ranks_of-in n.0 h.first n.2 (subst (λ z. In n.0 z) firsts
      (in_take_more n.0 (length reached) d.room order
      (reached_fits all order P reached starts k d rows b l one o)
      ((reached_is all order P reached starts k d rows b l one o n.0).1 n.1)))) in
      let q = ranked-more (ranks_of reached) (ranks_of h.first) in
      let t : length (ranked (ranks_of h.first ++ ranks_of reached))
      ≡ length (ranked (ranks_of h.first)) =
      ap length (ranked-within (ranks_of h.first) (ranks_of reached) sub) in
      let few = h.few in
      absurd (omega (arith, q, t, few, long))

-- from the clauses of the calls
few_at : (k : ℕ) (d : PlainDesk) (rows : List Rank) (o : Option Rank) → last_row k rows ≡ o
    → is_done true d o ≡ false → (o ≡ None → length rows < k) → length rows < k
few_at k d rows None e h f = f refl
few_at k d rows (Some w) e h f = cc

pub few-rows : (k : ℕ) (d : PlainDesk) (rows : List Rank) (one : Bool) → one ≡ true → 1 ≤ k
    → is_done one d (last_row k rows) ≡ false → length rows < k
few-rows k d rows one is some h =
    few_at k d rows (last_row k rows) refl (subst (λ z. is_done z d (last_row k rows) ≡ false) is h)
    (λ e. last_row-none k rows e some)

nothing : (all : List Match) (P : Queued → Type 0) (reached : List Match) (starts k : ℕ)
    (d : PlainDesk) (rows : List Rank) (b : Between all P reached k d rows)
    (l : IsListing all starts)
    → d.waiting ≡ [] → d.dropped ≡ None → (e : Queued)
    → In e d.waiting ⊎ In e (between-progress all P reached k d rows b).dropped → ⊥
nothing all P reached starts k d rows b l w o e (inl i) = subst (λ z. In e z) w i
nothing all P reached starts k d rows b l w o e (inr i) =
    subst (λ z. In e z) (subst (λ z. IsFirst (between-progress all P reached k d rows b).dropped z)
    o
    (between-progress all P reached k d rows b).is_first) i

pub exact-none : (all order : List Match) (P : Queued → Type 0) (reached : List Match)
    (starts k : ℕ) (d : PlainDesk) (rows : List Rank) (b : Between all P reached k d rows)
    (l : IsListing all starts) → starts ≤ 1 → IsInOrder all order
    → d.waiting ≡ [] → d.dropped ≡ None → IsExact order k d.room None
exact-none all order P reached starts k d rows b l one o w e =
    exact-empty all order P reached starts k d rows b l one o
    (nothing all P reached starts k d rows b l w e)

pub exact-some : (all order : List Match) (P : Queued → Type 0) (reached : List Match)
    (starts k : ℕ) (d : PlainDesk) (rows : List Rank) (b : Between all P reached k d rows)
    (l : IsListing all starts) → starts ≤ 1 → IsInOrder all order
    → (f : Queued) → d.waiting ≡ [] → d.dropped ≡ Some f → length rows < k
    → (generation : ℕ) (cut : PlainCut) → cut ≡ cut_at generation d.room f
    → IsExact order k d.room (Some cut)
exact-some all order P reached starts k d rows b l one o f w e few generation cut is =
    subst (λ z. IsExact order k d.room (Some z)) (sym is)
    (exact-cut all order P reached starts k d rows b l one o f w e few generation)

done_length : (k : ℕ) (d : PlainDesk) (rows : List Rank) (one : Bool) (o : Option Rank)
    → last_row k rows ≡ o → is_done one d o ≡ true → k ≤ length rows
done_length k d rows one None e h = cc
done_length k d rows one (Some w) e h = (last_row-some k rows w e).0

pub exact-when_done : (all order : List Match) (P : Queued → Type 0) (reached : List Match)
    (starts k : ℕ) (d : PlainDesk) (rows : List Rank) (b : Between all P reached k d rows)
    (l : IsListing all starts) → starts ≤ 1 → IsInOrder all order
    → (flag : Bool) → is_done flag d (last_row k rows) ≡ true → IsExact order k d.room None
exact-when_done all order P reached starts k d rows b l one o flag h =
    let low = done_length k d rows flag (last_row k rows) refl h in
    let n : length rows ≡ length (take k (ranked (ranks_of reached))) = ap length b.kept in
    exact-done all order P reached starts k d rows b l one o
    (taken_length k (ranked (ranks_of reached)) (omega (arith, low, n)))
