-- What is given up where a view ends.
use Rattle.std.proofs.Common.{◌≡◌, ◌<◌, ◌+◌, ◌-◌, ℕ, Bool, true, false, cond, not}
use Rattle.std.proofs.Common.{nat_eq, ◌&&◌, ◌||◌, List, [], ◌∷◌, length, map, refl, sym, ap}
use Rattle.std.proofs.Common.{◌∙◌, arith}
use Rattle.std.specs.Prelude.{filter, nat_lt, All}
use Rattle.std.specs.List.{AllByRecursion}
use Rattle.std.proofs.lemmas.Bool.Decides.{nat_tests}
use Rattle.std.proofs.lemmas.List.Elements.{All-from_recursion}
use Rattle.index_holds.specs.declared.held.Held.{Held}
use Rattle.index_holds.specs.Entries.{Rise}
use Rattle.index_holds.specs.Holders.{is_held, without_holder, after_release, given_up}
use Rattle.index_holds.specs.Holders.{HasHolder}
use Rattle.index_core.specs.Histories.{HistoryEvent, view_end, Record, View, is_among}
use Rattle.index_core.specs.Records.{with_event, drawn, current, open_views, open_merges}
use Rattle.index_core.specs.Records.{is_referenced}
use Rattle.index_core.specs.HeldGenerations.{holder_count, IsEntryOf, AreHolds, RisesFrom, IsOnce}
use Rattle.index_core.specs.HeldGenerations.{WereDrawn, EndedViewsRelease}
use Rattle.index_core.proofs.CountedLemmas.{is_kept, IsCounted, AreCounted, counted_used, entry_has}
use Rattle.index_core.proofs.CountedLemmas.{rises-generations, among-generations}
use Rattle.index_core.proofs.EventLemmas.{current-skip, open_merges-skip}
use Rattle.index_core.proofs.HoldingLemmas.{one_if, count_without, referenced_is}
use Rattle.index_core.proofs.RisingLemmas.{same_rising, rises-filter, among-filter, all_among}
use Rattle.index_core.proofs.ViewLemmas.{open_views-end}

-- ---- entries, by record and by count

-- whether a record has a generation in use
abbrev pub in_use : Record → ℕ → Bool
in_use r g = is_among g (current r)

each_counted : (r : Record) (hs : List Held) → AllByRecursion (IsEntryOf r) hs
    → AllByRecursion (IsCounted (in_use r) (holder_count r)) hs
each_counted r [] all = tt
each_counted r (h ∷ hs) all =
    (record { current_is = all.0.in_use; holders_is = all.0.held_by }, each_counted r hs all.1)

each_entry : (r : Record) (hs : List Held)
    → AllByRecursion (IsCounted (in_use r) (holder_count r)) hs
    → AllByRecursion (IsEntryOf r) hs
each_entry r [] all = tt
each_entry r (h ∷ hs) all =
    (record { in_use = all.0.current_is; held_by = all.0.holders_is }, each_entry r hs all.1)

pub counted : (r : Record) (hs : List Held) → AreHolds r hs
    → AreCounted (in_use r) (holder_count r) hs
counted r hs are = record {
  each = each_counted r hs are.each;
  kept = λ g. are.held g ∙ referenced_is r g;
}

pub holds : (r : Record) (hs : List Held) → AreCounted (in_use r) (holder_count r) hs
    → AreHolds r hs
holds r hs are = record {
  each = each_entry r hs are.each;
  held = λ g. are.kept g ∙ sym (referenced_is r g);
}

-- ---- what is given up

where_drawn : (a b : Bool) → (a ≡ true → b ≡ true) → a ≡ (b && a)
where_drawn true b h = sym (ap (λ (c : Bool). c && true) (h refl))
where_drawn false true h = refl
where_drawn false false h = refl

-- of entries before and after, what was referenced and isn't held any more, where that was drawn
pub given_up_is : (r : Record) (later : ℕ → Bool) (hs after : List Held) → Rise hs → AreHolds r hs
    → ((g : ℕ) → is_held after g ≡ later g) → RisesFrom 0 (drawn r)
    → ((g : ℕ) → (is_referenced r g && not (later g)) ≡ true → is_among g (drawn r) ≡ true)
    → given_up hs after ≡ filter (λ g. is_referenced r g && not (later g)) (drawn r)
given_up_is r later hs after up are held rises were =
    let test : ℕ → Bool = λ g. is_referenced r g && not (later g) in
    same_rising 0 0 (given_up hs after) (filter test (drawn r))
    (rises-filter (λ g. not (is_held after g)) 0 (map (λ h. h.generation) hs)
    (rises-generations hs up))
    (rises-filter test 0 (drawn r) rises)
    (λ g.
    among-filter (λ n. not (is_held after n)) g (map (λ h. h.generation) hs)
    ∙ ap (λ (b : Bool). b && not (is_held after g)) (among-generations g hs ∙ are.held g)
    ∙ ap (λ (b : Bool). is_referenced r g && not b) (held g)
    ∙ where_drawn (test g) (is_among g (drawn r)) (were g)
    ∙ sym (among-filter test g (drawn r)))

-- ---- generations that are given back

-- one holder fewer of some generations
same_generation : (gens : List ℕ) (h : Held) → (without_holder gens h).generation ≡ h.generation
same_generation gens h = by_test (is_among h.generation gens)
  where
    by_test : (b : Bool) → (cond b (record h { holders = h.holders - 1 }) h).generation
        ≡ h.generation
    by_test true = refl
    by_test false = refl

module _ (r r' : Record) (gens : List ℕ)
    (stays : (g : ℕ) → in_use r' g ≡ in_use r g)
    (fewer : (g : ℕ) → holder_count r g ≡ holder_count r' g + one_if (is_among g gens)) where
  released_entry : (h : Held) → IsCounted (in_use r) (holder_count r) h
      → IsCounted (in_use r') (holder_count r') (without_holder gens h)
  released_entry h is = by_test (is_among h.generation gens) (fewer h.generation)
    where
      by_test : (b : Bool)
          → holder_count r h.generation ≡ holder_count r' h.generation + one_if b
          → IsCounted (in_use r') (holder_count r')
          (cond b (record h { holders = h.holders - 1 }) h)
      by_test true split = record {
        current_is = is.current_is ∙ sym (stays h.generation);
        holders_is = let own = is.holders_is in omega (arith, own, split);
      }
      by_test false split = record {
        current_is = is.current_is ∙ sym (stays h.generation);
        holders_is = let own = is.holders_is in omega (arith, own, split);
      }

  kept_more : (b : Bool) (m n k : ℕ) → n ≡ m + k → (b || nat_lt 0 m) ≡ true
      → (b || nat_lt 0 n) ≡ true
  kept_more true m n k e is = refl
  kept_more false m n k e is =
      let some : 0 < m = grind (arith, nat_tests) in grind (arith, nat_tests)

  still_referenced : (g : ℕ) → is_kept (in_use r') (holder_count r') g ≡ true
      → is_kept (in_use r) (holder_count r) g ≡ true
  still_referenced g is =
      kept_more (in_use r g) (holder_count r' g) (holder_count r g) (one_if (is_among g gens))
      (fewer g) (ap (λ (b : Bool). b || nat_lt 0 (holder_count r' g)) (sym (stays g)) ∙ is)

  -- what is held afterwards
  pub holds_released : (hs : List Held) → AreHolds r hs → AreHolds r' (after_release gens hs)
  holds_released hs are =
      holds r' (after_release gens hs)
      (counted_used (in_use r) (in_use r') (holder_count r) (holder_count r')
      (without_holder gens) (same_generation gens) released_entry hs (counted r hs are)
      still_referenced)

  some_holder : (g : ℕ) → is_among g gens ≡ true → 0 < holder_count r g
  some_holder g is =
      let split = fewer g in
      let one = ap one_if is in
      omega (arith, split, one)

  is_there : (g : ℕ) → is_among g gens ≡ true → is_referenced r g ≡ true
  is_there g is =
      let some = some_holder g is in
      let held : nat_lt 0 (holder_count r g) ≡ true = grind (arith, nat_tests) in
      referenced_is r g ∙ ap (λ (b : Bool). in_use r g || b) held ∙ or_true (in_use r g)
    where
      or_true : (b : Bool) → (b || true) ≡ true
      or_true true = refl
      or_true false = refl

  -- each has a holder
  pub have_holders : (hs : List Held) → AreHolds r hs → All (HasHolder hs) gens
  have_holders hs are =
      All-from_recursion (HasHolder hs) gens (each gens (λ g is. is))
    where
      has : (g : ℕ) → is_among g gens ≡ true → HasHolder hs g
      has g is =
          entry_has (in_use r) (holder_count r) (λ h. 0 < h.holders) g
          (λ h own at.
          let some = some_holder g is in
          let count = own.holders_is in
          let same = ap (holder_count r) at in
          omega (arith, some, count, same))
          hs (each_counted r hs are.each) (are.held g ∙ is_there g is)

      itself : (n : ℕ) → nat_eq n n ≡ true
      itself n = grind (arith, nat_tests)

      or_true : (b : Bool) → (b || true) ≡ true
      or_true true = refl
      or_true false = refl

      each : (gs : List ℕ) → ((g : ℕ) → is_among g gs ≡ true → is_among g gens ≡ true)
          → AllByRecursion (HasHolder hs) gs
      each [] inside = tt
      each (g ∷ gs) inside = (
        has g (inside g (ap (λ (b : Bool). b || is_among g gs) (itself g))),
        each gs (λ n is. inside n (ap (λ (b : Bool). nat_eq n g || b) is ∙ or_true (nat_eq n g))),
      )

  gone_was_given : (b : Bool) (m n : ℕ) (c : Bool) → n ≡ m + one_if c
      → ((b || nat_lt 0 n) && not (b || nat_lt 0 m)) ≡ true → c ≡ true
  gone_was_given true m n c e is = let no : false ≡ true = is in absurd cc
  gone_was_given false m n true e is = refl
  gone_was_given false m n false e is =
      let same : n ≡ m = omega (arith, e) in
      let no : (nat_lt 0 m && not (nat_lt 0 m)) ≡ true =
      ap (λ (k : ℕ). nat_lt 0 k && not (nat_lt 0 m)) (sym same) ∙ is in
      never (nat_lt 0 m) no
    where
      never : (d : Bool) → (d && not d) ≡ true → false ≡ true
      never true e' = e'
      never false e' = e'

  -- of what was referenced and isn't any more, all was given back
  was_given : (g : ℕ) → (is_referenced r g && not (is_referenced r' g)) ≡ true
      → is_among g gens ≡ true
  was_given g is =
      gone_was_given (in_use r g) (holder_count r' g) (holder_count r g) (is_among g gens) (fewer g)
      (ap (λ (b : Bool). is_kept (in_use r) (holder_count r) g
      && not (b || nat_lt 0 (holder_count r' g))) (sym (stays g))
      ∙ ap (λ (b : Bool). is_kept (in_use r) (holder_count r) g && not b) (sym (referenced_is r' g))
      ∙ ap (λ (b : Bool). b && not (is_referenced r' g)) (sym (referenced_is r g))
      ∙ is)

  -- what is given up is what was referenced and isn't any more
  pub given_up-released : (hs : List Held) → Rise hs → AreHolds r hs → WereDrawn r gens
      → RisesFrom 0 (drawn r)
      → given_up hs (after_release gens hs)
      ≡ filter (λ g. is_referenced r g && not (is_referenced r' g)) (drawn r)
  given_up-released hs up are were rises =
      let after = after_release gens hs in
      given_up_is r (is_referenced r') hs after up are (holds_released hs are).held rises
      (λ g is. all_among (λ n. is_among n (drawn r) ≡ true) g gens were (was_given g is))

-- ---- a view ends

module _ (r : Record) (caller : ℕ) (v : View) (gone : List ℕ)
    (once : IsOnce (λ w. w.view) v (open_views r)) where
  abbrev e : HistoryEvent
  e = view_end caller v.view gone

  abbrev r' : Record
  r' = with_event r e

  current-same : current r' ≡ current r
  current-same = current-skip r.history e (λ n. refl) refl refl

  merges-same : open_merges r' ≡ open_merges r
  merges-same = open_merges-skip r.history e (λ n. refl) refl

  pub view_stays : (g : ℕ) → in_use r' g ≡ in_use r g
  view_stays g = ap (is_among g) current-same

  pub view_fewer : (g : ℕ)
      → holder_count r g ≡ holder_count r' g + one_if (is_among g v.generations)
  view_fewer g =
      let views = count_without (λ w. w.view) v (λ w. is_among g w.generations) (open_views r) once
      in
      let after = ap (λ (ws : List View). length (filter (λ w. is_among g w.generations) ws))
      (open_views-end r.history caller v.view gone) in
      let merges = ap (λ ms. length (filter (λ m. is_among g m.generations) ms)) merges-same in
      omega (arith, views, after, merges)

pub ended_releases : EndedViewsRelease
ended_releases r hs caller v gone once were rises up are =
    let r' = with_event r (view_end caller v.view gone) in
    let stays = view_stays r caller v gone once in
    let fewer = view_fewer r caller v gone once in (
      have_holders r r' v.generations stays fewer hs are,
      holds_released r r' v.generations stays fewer hs are,
      given_up-released r r' v.generations stays fewer hs up are were rises,
    )
