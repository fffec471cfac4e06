-- The open views after a view has begun or ended.
use Rattle.std.proofs.Common.{◌≡◌, ℕ, zero, suc, ◌+◌, ◌<◌, ◌≤◌, ◌⊎◌, inl, inr, Bool, true, false}
use Rattle.std.proofs.Common.{not, nat_eq, ◌&&◌, ◌||◌, None, List, [], ◌∷◌, ◌++◌, length, refl, sym}
use Rattle.std.proofs.Common.{◌∙◌, ap, arith}
use Rattle.std.specs.Prelude.{if◌then◌else◌, filter, All, Contains, slice_index_or}
use Rattle.std.specs.List.{filter_map}
use Rattle.std.proofs.lemmas.List.Elements.{filter_map-append, filter-append, filter_agree}
use Rattle.std.proofs.lemmas.List.Elements.{All-weaker, All-nil, All-cons, All-head, All-tail}
use Rattle.std.proofs.lemmas.List.Elements.{All-contains}
use Rattle.std.proofs.lemmas.List.{append-nil}
use Rattle.std.proofs.lemmas.List.Folds.{list_any-append, list_any_none}
use Rattle.sg_paths.specs.Operations.{PlainOp}
use Rattle.index_core.specs.declared.limits.TheConstants.{BATCH_OPERATIONS}
use Rattle.index_core.specs.Histories.{HistoryEvent, accept, freeze, built}
use Rattle.index_core.specs.Histories.{live_docs_updated, view_end, Record, View}
use Rattle.index_core.specs.Histories.{is_among, accepted, frozen, begun_view, ended_view}
use Rattle.index_core.specs.Histories.{begun_views, open_views}
use Rattle.index_core.specs.Records.{with_event, buffered, next_generation}
use Rattle.index_core.specs.CurrentPieces.{is_unbuilt, after_built, is_behind, after_lived}
use Rattle.index_core.specs.Fields.{AreViewsFrom}
use Rattle.index_core.specs.OpenViews.{without}
use Rattle.index_core.specs.Calls.{with_operation, after_accept, after_freeze, beginning}
use Rattle.index_core.proofs.HistoryLemmas.{skips}

-- a number over all numbers of a list isn't among them
pub is_among-over : (n most : ℕ) (numbers : List ℕ) → All (λ m. m ≤ most) numbers → most < n
    → is_among n numbers ≡ false
is_among-over n most numbers below over =
    list_any_none (nat_eq n) numbers
    (All-weaker (λ m. m ≤ most) (λ m. nat_eq n m ≡ false) (λ m m-below. grind arith) numbers below)

-- an event that neither begins nor ends a view leaves the open ones
pub open_views-skip : (history : List HistoryEvent) (event : HistoryEvent)
    → begun_view event ≡ None → ended_view event ≡ None
    → open_views (history ++ event ∷ []) ≡ open_views history
open_views-skip history event no-begin no-end =
    rw (skips ended_view history event no-end) (rw (skips begun_view history event no-begin) refl)

-- a freeze opens no view, and ends none
pub open_views-after_freeze : (caller : ℕ) (r : Record)
    → open_views (after_freeze caller r).history ≡ open_views r.history
open_views-after_freeze caller r =
    let event = freeze caller (next_generation r) (frozen r.history + 1)
    (accepted r.history) in
    elim (nat_eq (buffered r) 0) as (λ none.
    open_views (if none then r else with_event r event).history ≡ open_views r.history) [
      | true ↦ refl
      | false ↦ open_views-skip r.history event refl refl
    ]

-- nor does a segment
pub open_views-after_built : (caller g : ℕ) (r : Record)
    → open_views (after_built caller g r).history ≡ open_views r.history
open_views-after_built caller g r =
    elim (is_unbuilt r g) as (λ b.
    open_views (if b then with_event r (built caller g) else r).history
    ≡ open_views r.history) [
      | true ↦ open_views-skip r.history (built caller g) refl refl
      | false ↦ refl
    ]

-- nor do live docs
pub open_views-after_lived : (caller g upto : ℕ) (r : Record)
    → open_views (after_lived caller g upto r).history ≡ open_views r.history
open_views-after_lived caller g upto r =
    elim (is_behind r g upto) as (λ b.
    open_views (if b then with_event r (live_docs_updated caller g upto) else r).history
    ≡ open_views r.history) [
      | true ↦ open_views-skip r.history (live_docs_updated caller g upto) refl refl
      | false ↦ refl
    ]

-- nor does an accept, with the freeze of a full buffer
pub open_views-after_accept : (caller : ℕ) (operation : PlainOp) (r : Record)
    → open_views (after_accept caller operation r).history ≡ open_views r.history
open_views-after_accept caller operation r =
    let added = with_operation caller operation r in
    let one : open_views added.history ≡ open_views r.history =
    open_views-skip r.history (accept caller (accepted r.history + 1)) refl refl in
    elim (nat_eq (buffered added) BATCH_OPERATIONS) as (λ full.
    open_views (if full then after_freeze caller added else added).history
    ≡ open_views r.history) [
      | true ↦ open_views-after_freeze caller added ∙ one
      | false ↦ one
    ]

pub open_views-begin : (history : List HistoryEvent) (v : View)
    → is_among v.view (filter_map ended_view history) ≡ false
    → open_views (history ++ beginning v ∷ []) ≡ open_views history ++ v ∷ []
open_views-begin history v new =
    let still : View → Bool = λ w. not (is_among w.view (filter_map ended_view history)) in
    rw (skips ended_view history (beginning v) refl)
    (rw (filter_map-append begun_view history (beginning v ∷ []))
    (filter-append still (begun_views history) (v ∷ [])
    ∙ rw new refl))

-- two filters in turn keep what passes both tests
filter_twice : (p q : View → Bool) (vs : List View)
    → filter q (filter p vs) ≡ filter (λ v. p v && q v) vs
filter_twice p q [] = refl
filter_twice p q (v ∷ vs) = by_cases (p v) (q v) refl refl (filter_twice p q vs)
  where
    by_cases : (b c : Bool) → p v ≡ b → q v ≡ c
        → filter q (filter p vs) ≡ filter (λ w. p w && q w) vs
        → filter q (filter p (v ∷ vs)) ≡ filter (λ w. p w && q w) (v ∷ vs)
    by_cases false c pv qv twice = rw pv twice
    by_cases true false pv qv twice = rw pv (rw qv twice)
    by_cases true true pv qv twice = rw pv (rw qv (ap (λ (ws : List View). v ∷ ws) twice))

not_either : (a b : Bool) → not (a || (b || false)) ≡ (not a && not b)
not_either true b = refl
not_either false true = refl
not_either false false = refl

pub open_views-end : (history : List HistoryEvent) (caller n : ℕ) (released : List ℕ)
    → open_views (history ++ view_end caller n released ∷ []) ≡ without n (open_views history)
open_views-end history caller n released =
    let ended = filter_map ended_view history in
    rw (skips begun_view history (view_end caller n released) refl)
    (rw (filter_map-append ended_view history (view_end caller n released ∷ []))
    (filter_agree (λ v. not (is_among v.view (ended ++ n ∷ [])))
    (λ v. not (is_among v.view ended) && not (nat_eq v.view n))
    (λ v. ap not (list_any-append (nat_eq v.view) ended (n ∷ []))
    ∙ not_either (is_among v.view ended) (nat_eq v.view n))
    (begun_views history)
    ∙ sym (filter_twice (λ v. not (is_among v.view ended)) (λ v. not (nat_eq v.view n))
    (begun_views history))))

-- views from a number on have no lesser one
from_on : (p : View → Bool) (first : ℕ) (vs : List View) → AreViewsFrom first vs
    → All (λ v. first ≤ v.view) (filter p vs)
from_on p first [] numbered = All-nil (λ v. first ≤ v.view)
from_on p first (v ∷ vs) numbered =
    let later : All (λ w. first ≤ w.view) (filter p vs) =
    All-weaker (λ w. first + 1 ≤ w.view) (λ w. first ≤ w.view) (λ w over. omega (arith, over))
    (filter p vs) (from_on p (first + 1) vs numbered.1) in
    by_cases (p v) refl later
  where
    by_cases : (b : Bool) → p v ≡ b → All (λ w. first ≤ w.view) (filter p vs)
        → All (λ w. first ≤ w.view) (filter p (v ∷ vs))
    by_cases false pv later = rw pv later
    by_cases true pv later =
        rw pv (All-cons (λ w. first ≤ w.view) v (filter p vs) (omega (arith, numbered.0)) later)

-- a lesser number takes no view away
without_lesser : (n first : ℕ) (vs : List View) → All (λ v. first ≤ v.view) vs → n < first
    → without n vs ≡ vs
without_lesser n first [] over lesser = refl
without_lesser n first (v ∷ vs) over lesser =
    let here : first ≤ v.view = All-head (λ w. first ≤ w.view) v vs over in
    let other : nat_eq v.view n ≡ false = grind (arith, here, lesser) in
    rw other (ap (λ (ws : List View). v ∷ ws)
    (without_lesser n first vs (All-tail (λ w. first ≤ w.view) v vs over) lesser))

-- a greater number takes no view away
pub without_greater : (n : ℕ) (vs : List View) → All (λ v. v.view < n) vs → without n vs ≡ vs
without_greater n [] below = refl
without_greater n (v ∷ vs) below =
    let here : v.view < n = All-head (λ w. w.view < n) v vs below in
    let other : nat_eq v.view n ≡ false = grind (arith, here) in
    rw other (ap (λ (ws : List View). v ∷ ws)
    (without_greater n vs (All-tail (λ w. w.view < n) v vs below)))

-- without the newest view, whose number is greater, those before it are left
pub without_newest : (vs : List View) (v : View) → All (λ w. w.view < v.view) vs
    → without v.view (vs ++ v ∷ []) ≡ vs
without_newest vs v below =
    let same : nat_eq v.view v.view ≡ true = grind arith in
    filter-append (λ w. not (nat_eq w.view v.view)) vs (v ∷ [])
    ∙ rw same (append-nil (without v.view vs)) ∙ without_greater v.view vs below

-- what is in a list is its first element or among the rest
pub first_or_later : (w v : View) (ws : List View) → Contains (w ∷ ws) v → (w ≡ v) ⊎ Contains ws v
first_or_later w v ws there = by_place there.0 there.1 there.2
  where
    by_place : (k : ℕ) → k < length (w ∷ ws) → slice_index_or (w ∷ ws) k v ≡ v
        → (w ≡ v) ⊎ Contains ws v
    by_place zero within is = inl is
    by_place (suc k) within is = inr (k, omega (arith, within), is)

-- the first of them
first_taken : (first : ℕ) (w v : View) (ws : List View) → w.view ≡ first → w ≡ v
    → All (λ x. first + 1 ≤ x.view) ws
    → length (without v.view (w ∷ ws)) + 1 ≡ length (w ∷ ws)
first_taken first w v ws numbered is over =
    let same : w.view ≡ v.view = ap (λ (x : View). x.view) is in
    let test : nat_eq w.view v.view ≡ true = grind (arith, same) in
    let rest : without v.view ws ≡ ws =
    without_lesser v.view (first + 1) ws over (omega (arith, same, numbered)) in
    rw test (rw rest (omega arith))

-- a later one
later_taken : (w v : View) (ws : List View) → w.view < v.view
    → length (without v.view ws) + 1 ≡ length ws
    → length (without v.view (w ∷ ws)) + 1 ≡ length (w ∷ ws)
later_taken w v ws lesser taken =
    let test : nat_eq w.view v.view ≡ false = grind (arith, lesser) in
    rw test (omega (arith, taken))

-- of views with consecutive numbers, a number takes one away that is there
pub without_one : (p : View → Bool) (first : ℕ) (vs : List View) (v : View)
    → AreViewsFrom first vs → Contains (filter p vs) v
    → length (without v.view (filter p vs)) + 1 ≡ length (filter p vs)
without_one p first [] v numbered there = absurd (omega (arith, there.1))
without_one p first (w ∷ ws) v numbered there =
    by_cases (p w) refl (λ found. without_one p (first + 1) ws v numbered.1 found)
  where
    by_cases : (b : Bool) → p w ≡ b
        → (Contains (filter p ws) v
        → length (without v.view (filter p ws)) + 1 ≡ length (filter p ws))
        → length (without v.view (filter p (w ∷ ws))) + 1 ≡ length (filter p (w ∷ ws))
    by_cases false pw again = rw pw (again (rw pw at there))
    by_cases true pw again =
        let over : All (λ x. first + 1 ≤ x.view) (filter p ws) =
        from_on p (first + 1) ws numbered.1 in
        rw pw (elim (first_or_later w v (filter p ws) (rw pw at there)) [
          | inl is ↦ first_taken first w v (filter p ws) numbered.0 is over
          | inr found ↦ later_taken w v (filter p ws)
              (omega (
                arith,
                numbered.0,
                All-contains (λ x. first + 1 ≤ x.view) (filter p ws) v over found,
              ))
              (again found)
        ])

-- with the next number at its end, views are numbered still
pub AreViewsFrom-more : (first : ℕ) (vs : List View) (v : View)
    → AreViewsFrom first vs → v.view ≡ first + length vs → AreViewsFrom first (vs ++ v ∷ [])
AreViewsFrom-more first [] v numbered is = (omega (arith, is), tt)
AreViewsFrom-more first (w ∷ ws) v numbered is =
    (numbered.0, AreViewsFrom-more (first + 1) ws v numbered.1 (omega (arith, is)))

-- views with consecutive numbers stay below the number of the next
pub below_next : (first : ℕ) (vs : List View) → AreViewsFrom first vs
    → All (λ v. v.view < first + length vs) vs
below_next first [] numbered = All-nil (λ v. v.view < first + 0)
below_next first (v ∷ vs) numbered =
    All-cons (λ w. w.view < first + length (v ∷ vs)) v vs (omega (arith, numbered.0))
    (All-weaker (λ w. w.view < first + 1 + length vs) (λ w. w.view < first + length (v ∷ vs))
    (λ w below. omega (arith, below)) vs (below_next (first + 1) vs numbered.1))
