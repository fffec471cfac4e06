-- What is held after one event more.
use Rattle.std.proofs.Common.{◌≡◌, ◌≤◌, ◌<◌, ◌+◌, ℕ, zero, suc, Bool, true, false, cond, not}
use Rattle.std.proofs.Common.{nat_eq, inl, inr, List, [], ◌∷◌, length, map, refl}
use Rattle.std.proofs.Common.{sym, ap, ◌∙◌, subst, arith, get_or, None}
use Rattle.std.specs.Prelude.{filter, All, Contains, slice_index_or}
use Rattle.std.specs.List.{AllByRecursion, filter_map}
use Rattle.std.specs.List.Sorted.{IsStrictlyIncreasing}
use Rattle.std.proofs.lemmas.Bool.Decides.{nat_tests}
use Rattle.std.proofs.lemmas.List.Elements.{filter_map-append}
use Rattle.sg_paths.specs.Operations.{PlainOp}
use Rattle.index_holds.specs.declared.held.Held.{Held}
use Rattle.index_holds.specs.Holders.{is_held, is_used, with_current, with_holder, after_release}
use Rattle.index_holds.specs.Holders.{given_up, without_holder, HasHolder, HasRoom}
use Rattle.index_holds.proofs.EntryLemmas.{rise-map, rise-filter, rise-with_current}
use Rattle.index_holds.proofs.EntryLemmas.{generation-changed}
use Rattle.index_core.specs.Histories.{HistoryEvent, freeze, view_end, Record, View, is_among}
use Rattle.index_core.specs.Histories.{drawn_generation, begun_view, ended_view, merges_from}
use Rattle.index_core.specs.Histories as events
use Rattle.index_core.specs.Records.{with_event, drawn, current, open_views, released}
use Rattle.index_core.specs.Calls.{beginning}
use Rattle.index_core.specs.HeldGenerations.{RisesFrom, IsOnce, WereDrawn}
use Rattle.index_core.specs.HeldEvents.{with_both, IsQuiet, BeginsDrawn, AreFewOpen}
use Rattle.index_core.specs.Fields.{AreViewsFrom, AreHeld}
use Rattle.index_core.proofs.ListLemmas.{same_number, all_weaker, all_more}
use Rattle.index_core.proofs.HistoryLemmas.{skips}
use Rattle.index_core.proofs.ViewLemmas.{without_one, first_or_later}
use Rattle.index_core.proofs.FreezeLemmas.{rises_more}
use Rattle.index_core.proofs.HoldsLemmas.{each_among}
use Rattle.index_core.proofs.HeldEventLemmas.{current_drawn}
use Rattle.index_core.proofs.MergeEventLemmas.{counts_follow}
use Rattle.index_core.proofs.ReleasingLemmas.{ended_releases}

-- ---- lists

pub increasing : (n : ℕ) (xs : List ℕ) → RisesFrom n xs → IsStrictlyIncreasing xs
increasing n [] up k within = absurd (omega (arith, within))
increasing n (x ∷ []) up k within = absurd (omega (arith, within))
increasing n (x ∷ y ∷ xs) up zero within =
    let less : x + 1 ≤ y = up.1.0 in omega (arith, less)
increasing n (x ∷ y ∷ xs) up (suc k) within =
    let e : suc k + 1 ≡ suc (k + 1) = omega arith in
    subst (λ (m : ℕ). get_or (y ∷ xs) k 0 < get_or (x ∷ y ∷ xs) m 0) (sym e)
    (increasing (x + 1) (y ∷ xs) up.1 k (omega (arith, within)))

-- what holds of each item holds of one that is there
pub in_list : {X : Type 0} (P : X → Type 0) (x : X) (xs : List X) → AllByRecursion P xs
    → Contains xs x → P x
in_list {X} P x xs all there = by_place xs all there.0 there.1 there.2
  where
    by_place : (ys : List X) → AllByRecursion P ys → (k : ℕ) → k < length ys
        → slice_index_or ys k x ≡ x → P x
    by_place [] all' k within is = absurd (omega (arith, within))
    by_place (y ∷ ys) all' zero within is = subst P is all'.0
    by_place (y ∷ ys) all' (suc k) within is = by_place ys all'.1 k (omega (arith, within)) is

pub all_kept : {X : Type 0} (P : X → Type 0) (p : X → Bool) (xs : List X) → AllByRecursion P xs
    → AllByRecursion P (filter p xs)
all_kept P p [] all = tt
all_kept P p (x ∷ xs) all = by_cases (p x) (all_kept P p xs all.1)
  where
    by_cases : (b : Bool) → AllByRecursion P (filter p xs)
        → AllByRecursion P (cond b (x ∷ filter p xs) (filter p xs))
    by_cases true later = (all.0, later)
    by_cases false later = later

-- ---- an open view is alone under its number

from_number : (first : ℕ) (vs : List View) → AreViewsFrom first vs
    → AllByRecursion (λ w. first ≤ w.view) vs
from_number first [] numbered = tt
from_number first (v ∷ vs) numbered = (
  omega (arith, numbered.0),
  all_weaker (λ w. first + 1 ≤ w.view) (λ w. first ≤ w.view) (λ w over. omega (arith, over)) vs
      (from_number (first + 1) vs numbered.1),
)

-- no view of a greater number is another
abbrev IsAlone : View → View → Type 0
IsAlone v w = nat_eq w.view v.view ≡ true → w ≡ v

others : (v : View) (n : ℕ) (vs : List View) → v.view < n → AllByRecursion (λ w. n ≤ w.view) vs
    → AllByRecursion (IsAlone v) vs
others v n vs less over =
    all_weaker (λ w. n ≤ w.view) (IsAlone v)
    (λ w from same.
    let here : w.view ≡ v.view = same_number w.view v.view same in
    absurd (omega (arith, here, from, less))) vs over

alone : (p : View → Bool) (first : ℕ) (vs : List View) (v : View) → AreViewsFrom first vs
    → Contains (filter p vs) v → AllByRecursion (IsAlone v) (filter p vs)
alone p first [] v numbered there = tt
alone p first (w ∷ ws) v numbered there =
    by_cases (p w) refl (λ found. alone p (first + 1) ws v numbered.1 found)
  where
    over : AllByRecursion (λ x. first + 1 ≤ x.view) (filter p ws)
    over = all_kept (λ x. first + 1 ≤ x.view) p ws (from_number (first + 1) ws numbered.1)

    by_cases : (b : Bool) → p w ≡ b
        → (Contains (filter p ws) v → AllByRecursion (IsAlone v) (filter p ws))
        → AllByRecursion (IsAlone v) (filter p (w ∷ ws))
    by_cases false pw again = rw pw (again (rw pw at there))
    by_cases true pw again =
        rw pw (elim (first_or_later w v (filter p ws) (rw pw at there)) [
          | inl is ↦
              let same : w.view ≡ v.view = ap (λ (x : View). x.view) is in (
                λ _. is,
                others v (first + 1) (filter p ws)
                    (omega (arith, same, numbered.0)) over,
              )
          | inr found ↦
              let later : first + 1 ≤ v.view =
              in_list (λ x. first + 1 ≤ x.view) v (filter p ws) over found in (
                λ same.
                    let here : w.view ≡ v.view = same_number w.view v.view same in
                    absurd (omega (arith, here, later, numbered.0)),
                again found,
              )
        ])

pub both_parts : {X : Type 0} (t : X → Bool) (xs : List X)
    → length (filter t xs) + length (filter (λ x. not (t x)) xs) ≡ length xs
both_parts t [] = omega arith
both_parts t (x ∷ xs) = by_cases (t x) (both_parts t xs)
  where
    by_cases : (b : Bool)
        → length (filter t xs) + length (filter (λ y. not (t y)) xs) ≡ length xs
        → length (cond b (x ∷ filter t xs) (filter t xs))
        + length (cond (not b) (x ∷ filter (λ y. not (t y)) xs) (filter (λ y. not (t y)) xs))
        ≡ suc (length xs)
    by_cases true e = omega (arith, e)
    by_cases false e = omega (arith, e)

pub open_once : (history : List HistoryEvent) (v : View)
    → AreViewsFrom 1 (events.begun_views history) → Contains (events.open_views history) v
    → IsOnce (λ w. w.view) v (events.open_views history)
open_once history v numbered there =
    let still : View → Bool = λ w. not (is_among w.view (filter_map ended_view history)) in
    let all = both_parts (λ (w : View). nat_eq w.view v.view) (events.open_views history) in
    let one = without_one still 1 (events.begun_views history) v numbered there in
    record {
      once = omega (arith, all, one);
      only = alone still 1 (events.begun_views history) v numbered there;
    }

-- ---- the events

pub nothing_begun : (r : Record) (e : HistoryEvent) → begun_view e ≡ None
    → ((n : ℕ) → merges_from n (e ∷ []) ≡ []) → BeginsDrawn r e
nothing_begun r e no-view no-merge = record {
  view = rw no-view tt;
  merge = λ n. rw (no-merge n) tt;
}

pub held_quiet : (r : Record) (e : HistoryEvent) (journal : List PlainOp) (hs : List Held)
    → IsQuiet e → AreHeld r hs → AreHeld (with_both r e journal) hs
held_quiet r e journal hs quiet are = record {
  counts = counts_follow.quiet r e journal hs quiet are.counts;
  rise = are.rise;
  drawn_before = counts_follow.drawn_still r e journal are.drawn_before
      (nothing_begun r e quiet.begins quiet.merges);
  drawn_rise = rw (skips drawn_generation r.history e quiet.draws) are.drawn_rise;
  views_rise = rw (skips begun_view r.history e quiet.begins) are.views_rise;
}

pub undrawn : (g : ℕ) (xs : List ℕ) → AllByRecursion (λ x. x < g) xs → is_among g xs ≡ false
undrawn g [] all = refl
undrawn g (x ∷ xs) all =
    let here : x < g = all.0 in
    let other : nat_eq g x ≡ false = grind (arith, nat_tests, here) in
    rw other (undrawn g xs all.1)

pub held_freeze : (r : Record) (caller g from upto : ℕ) (hs : List Held)
    → AllByRecursion (λ x. x < g) (drawn r) → AreHeld r hs
    → (is_held hs g ≡ false)
    × AreHeld (with_event r (freeze caller g from upto)) (with_current g hs)
held_freeze r caller g from upto hs less are =
    let e = freeze caller g from upto in
    let new = undrawn g (drawn r) less in
    let after = counts_follow.freezes r caller g from upto hs are.drawn_before new are.counts in (
      after.0,
      record {
        counts = after.1;
        rise = rise-with_current g hs after.0 are.rise;
        drawn_before = counts_follow.drawn_still r e r.journal are.drawn_before
            (nothing_begun r e refl (λ n. refl));
        drawn_rise = rw (filter_map-append drawn_generation r.history (e ∷ []))
            (rises_more 0 g (drawn r) are.drawn_rise less (omega arith));
        views_rise = rw (skips begun_view r.history e refl) are.views_rise;
      },
    )

pub held_begin : (r : Record) (v : View) (hs : List Held)
    → is_among v.view (filter_map ended_view r.history) ≡ false → v.generations ≡ current r
    → RisesFrom 0 v.generations → AreFewOpen r → AreHeld r hs
    → All (HasRoom hs) v.generations
    × AreHeld (with_event r (beginning v)) (map (with_holder v.generations) hs)
held_begin r v hs new same rising few are =
    let e = beginning v in
    let in_use : (g : ℕ) → is_among g v.generations ≡ true → is_among g (current r) ≡ true =
    λ g there. ap (is_among g) (sym same) ∙ there in
    let after = counts_follow.begins r v hs new in_use few are.counts in
    let were : WereDrawn r v.generations =
    each_among (λ g. is_among g (drawn r) ≡ true) v.generations
    (λ g there. current_drawn r g (in_use g there)) in (
      after.room,
      record {
        counts = after.holds;
        rise = rise-map (with_holder v.generations)
            (λ h. generation-changed (is_among h.generation v.generations) _ h refl) hs are.rise;
        drawn_before = counts_follow.drawn_still r e r.journal are.drawn_before
            (record { view = (were, tt); merge = λ n. tt });
        drawn_rise = rw (skips drawn_generation r.history e refl) are.drawn_rise;
        views_rise = rw (filter_map-append begun_view r.history (e ∷ []))
            (all_more (λ w. RisesFrom 0 w.generations) (events.begun_views r.history) v
            are.views_rise rising);
      },
    )

-- what a view's end asks of its generations, and leaves
pub record Ended (r : Record) (hs : List Held) (caller : ℕ) (v : View) (gone : List ℕ)
    : Type 0 where
  pub rising : IsStrictlyIncreasing v.generations
  pub holders : All (HasHolder hs) v.generations
  pub held : AreHeld (with_event r (view_end caller v.view gone)) (after_release v.generations hs)
  pub freed : given_up hs (after_release v.generations hs)
      ≡ released r (view_end caller v.view gone)

pub held_end : (r : Record) (caller : ℕ) (v : View) (gone : List ℕ) (hs : List Held)
    → AreViewsFrom 1 (events.begun_views r.history) → Contains (open_views r) v → AreHeld r hs
    → Ended r hs caller v gone
held_end r caller v gone hs numbered there are =
    let e = view_end caller v.view gone in
    let still : View → Bool = λ w. not (is_among w.view (filter_map ended_view r.history)) in
    let were : WereDrawn r v.generations =
    in_list (λ w. WereDrawn r w.generations) v (open_views r)
    (all_kept (λ w. WereDrawn r w.generations) still (events.begun_views r.history)
    are.drawn_before.views) there in
    let rises : RisesFrom 0 v.generations =
    in_list (λ w. RisesFrom 0 w.generations) v (open_views r)
    (all_kept (λ w. RisesFrom 0 w.generations) still (events.begun_views r.history)
    are.views_rise) there in
    let after = ended_releases r hs caller v gone (open_once r.history v numbered there) were
    are.drawn_rise are.rise are.counts in
    record {
      rising = increasing 0 v.generations rises;
      holders = after.0;
      held = record {
        counts = after.1;
        rise = rise-filter is_used (map (without_holder v.generations) hs)
            (rise-map (without_holder v.generations)
            (λ h. generation-changed (is_among h.generation v.generations) _ h refl) hs are.rise);
        drawn_before = counts_follow.drawn_still r e r.journal are.drawn_before
            (nothing_begun r e refl (λ n. refl));
        drawn_rise = rw (skips drawn_generation r.history e refl) are.drawn_rise;
        views_rise = rw (skips begun_view r.history e refl) are.views_rise;
      };
      freed = after.2;
    }
