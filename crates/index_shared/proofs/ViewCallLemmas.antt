-- The views that a handle has open: what a critical section finds of them, and what it leaves.
use Rattle.std.proofs.Common.{◌≡◌, ℕ, nat_eq, not, List, [], ◌∷◌, ◌++◌, sym, ap, subst}
use Rattle.std.proofs.Common.{Result, Ok, Err}
use Rattle.std.specs.Prelude.{IfOk, OnErr, Contains}
use Rattle.index_core.specs.Histories.{Record, View}
use Rattle.index_core.specs.Records.{open_views}
use Rattle.index_core.specs.LegalHistories.{IsLegal}
use Rattle.index_core.specs.OpenViews.{without}
use Rattle.index_shared.specs.Sections.{HandleState, seen_by, FindsRecord}
use Rattle.index_shared.specs.OwnViews.{open_by}
use Rattle.index_shared.proofs.ListLemmas.{in_whole, mine_same, mine_more, mine_fewer, mine_others}
use Rattle.index_shared.proofs.OwnViewLemmas.{own_views_stay}
use Rattle.index_shared.proofs.SectionLemmas.{Visited, seen_is}

-- what it has open is open in what its section finds
pub view_found : (h : HandleState) (found : Record) (v : View) → FindsRecord h found
    → IsLegal found → Contains (open_by h.number (seen_by h)) v → Contains (open_views found) v
view_found h found v finds legal there =
    in_whole (λ (w : View). nat_eq w.caller h.number) (open_views found) v
    (subst (λ (vs : List View). Contains vs v) (sym (own_views_stay h found finds legal)) there)

-- what it has open afterwards, from what is open
module _ {h new : HandleState} {found later : Record} (visit : Visited h found later new) where
  abbrev before : List View
  before = open_by h.number (seen_by h)

  stay : open_by h.number found ≡ before
  stay = own_views_stay h found visit.finds visit.legal

  -- what holds of what was left holds of what the handle has seen
  of_seen : (P : List View → Type 0) → P (open_by h.number later)
      → P (open_by h.number (seen_by new))
  of_seen P holds = subst (λ (r : Record). P (open_by h.number r)) (sym (seen_is visit)) holds

  pub same_views : open_views later ≡ open_views found → open_by h.number (seen_by new) ≡ before
  same_views same =
      of_seen (λ vs. vs ≡ before)
      (mine_same (λ (v : View). v.caller) h.number (open_views found) (open_views later) before stay
      same)

  pub fewer_views : (n : ℕ) → open_views later ≡ without n (open_views found)
      → open_by h.number (seen_by new) ≡ without n before
  fewer_views n fewer =
      of_seen (λ vs. vs ≡ without n before)
      (mine_fewer (λ (v : View). v.caller) h.number (open_views found) (open_views later) before
      stay (λ v. not (nat_eq v.view n)) fewer)

  -- where a view begins, by the answer
  pub view_begun : {P E : Type 0} (c : ℕ) (result : Result P E) (view : ℕ → P → View)
      → c ≡ h.number → ((n : ℕ) (p : P) → (view n p).caller ≡ n)
      → IfOk result (λ p. open_views later ≡ open_views found ++ view c p ∷ [])
      → IfOk result (λ p.
      open_by h.number (seen_by new) ≡ open_by h.number (seen_by h) ++ view h.number p ∷ [])
  view_begun c (Ok p) view mine own opened =
      of_seen (λ vs. vs ≡ before ++ view h.number p ∷ [])
      (mine_more (λ (v : View). v.caller) h.number (open_views found) (open_views later) before
      stay (view h.number p) (own h.number p)
      (subst (λ (n : ℕ). open_views later ≡ open_views found ++ view n p ∷ []) mine opened))
  view_begun c (Err e) view mine own opened = tt

  pub view_fresh : {P E : Type 0} (result : Result P E) (number : P → ℕ)
      → IfOk result (λ p. without (number p) (open_views later) ≡ open_views found)
      → IfOk result (λ p. without (number p) (open_by h.number (seen_by new))
      ≡ open_by h.number (seen_by h))
  view_fresh (Ok p) number others =
      of_seen (λ vs. without (number p) vs ≡ before)
      (mine_others (λ (v : View). v.caller) h.number (open_views found) (open_views later) before
      stay (λ v. not (nat_eq v.view (number p))) others)
  view_fresh (Err e) number others = tt

  pub no_view : {P E : Type 0} (result : Result P E) → OnErr result (later ≡ found)
      → OnErr result (open_by h.number (seen_by new) ≡ open_by h.number (seen_by h))
  no_view (Ok p) err = tt
  no_view (Err e) err = same_views (ap (λ (r : Record). open_views r) err)
