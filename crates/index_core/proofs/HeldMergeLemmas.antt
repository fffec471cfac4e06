-- What is held after a merge has begun, was dropped, or has ended.
use Rattle.std.proofs.Common.{◌≡◌, ◌<◌, ℕ, true, false, List, [], ◌∷◌, map, refl}
use Rattle.std.proofs.Common.{arith, Some, None}
use Rattle.std.specs.Prelude.{All}
use Rattle.std.specs.List.{AllByRecursion, filter_map}
use Rattle.std.proofs.lemmas.List.Elements.{filter_map-append}
use Rattle.index_holds.specs.declared.held.Held.{Held}
use Rattle.index_holds.specs.Entries.{Rise}
use Rattle.index_holds.specs.Holders.{is_held, is_used, with_current, with_holder, without_holder}
use Rattle.index_holds.specs.Holders.{without_current, after_release, after_retire, given_up}
use Rattle.index_holds.specs.Holders.{HasHolder, HasRoom, IsCurrentAndHeld}
use Rattle.index_holds.proofs.EntryLemmas.{rise-map, rise-filter, rise-with_current}
use Rattle.index_holds.proofs.EntryLemmas.{generation-changed}
use Rattle.index_core.specs.Histories.{HistoryEvent, merge_begin, merge_end, merge_drop, Record}
use Rattle.index_core.specs.Histories.{Merge, is_among, closed_merge, drawn_generation}
use Rattle.index_core.specs.Histories.{begun_view}
use Rattle.index_core.specs.Records.{with_event, drawn, next_merge, released}
use Rattle.index_core.specs.HeldGenerations.{AreHolds, RisesFrom, WereDrawn}
use Rattle.index_core.specs.HeldEvents.{AreInUse, AreFewOpen, BeginsDrawn, MayEnd}
use Rattle.index_core.specs.Fields.{AreHeld}
use Rattle.index_core.proofs.HistoryLemmas.{skips}
use Rattle.index_core.proofs.HeldEventLemmas.{current_drawn}
use Rattle.index_core.proofs.HoldsLemmas.{each_among}
use Rattle.index_core.proofs.MergeEventLemmas.{counts_follow}
use Rattle.index_core.proofs.FreezeLemmas.{rises_more}
use Rattle.index_core.proofs.HeldLemmas.{nothing_begun, undrawn}

-- an event that begins no view, with what is held after it
held_after : (r : Record) (e : HistoryEvent) (hs hs' : List Held) → AreHeld r hs
    → AreHolds (with_event r e) hs' → Rise hs' → BeginsDrawn r e → begun_view e ≡ None
    → RisesFrom 0 (drawn (with_event r e)) → AreHeld (with_event r e) hs'
held_after r e hs hs' are counts rise begins no-view rises = record {
  counts = counts;
  rise = rise;
  drawn_before = counts_follow.drawn_still r e r.journal are.drawn_before begins;
  drawn_rise = rises;
  views_rise = rw (skips begun_view r.history e no-view) are.views_rise;
}

rise_released : (gens : List ℕ) (hs : List Held) → Rise hs → Rise (after_release gens hs)
rise_released gens hs up =
    rise-filter is_used (map (without_holder gens) hs)
    (rise-map (without_holder gens)
    (λ h. generation-changed (is_among h.generation gens) _ h refl) hs up)

rise_retired : (gens : List ℕ) (hs : List Held) → Rise hs → Rise (after_retire gens hs)
rise_retired gens hs up =
    rise-filter is_used (map (without_current gens) hs)
    (rise-map (without_current gens)
    (λ h. generation-changed (is_among h.generation gens) _ h refl) hs up)

pub held_merge_begin : (r : Record) (caller : ℕ) (gens : List ℕ) (hs : List Held)
    → is_among (next_merge r) (filter_map closed_merge r.history) ≡ false → AreInUse r gens
    → AreFewOpen r → AreHeld r hs
    → All (HasRoom hs) gens
    × AreHeld (with_event r (merge_begin caller (next_merge r) gens)) (map (with_holder gens) hs)
held_merge_begin r caller gens hs new used few are =
    let e = merge_begin caller (next_merge r) gens in
    let after = counts_follow.begins_merge r caller (next_merge r) gens hs new used few
    are.counts in
    let were : WereDrawn r gens =
    each_among (λ g. is_among g (drawn r) ≡ true) gens
    (λ g there. current_drawn r g (used g there)) in (
      after.room,
      held_after r e hs (map (with_holder gens) hs) are after.holds
          (rise-map (with_holder gens)
          (λ h. generation-changed (is_among h.generation gens) _ h refl) hs are.rise)
          (record { view = tt; merge = λ n. (were, tt) }) refl
          (rw (skips drawn_generation r.history e refl) are.drawn_rise),
    )

-- what a merge that is dropped asks of its generations, and leaves
pub record Drops (r : Record) (hs : List Held) (caller : ℕ) (m : Merge) : Type 0 where
  pub holders : All (HasHolder hs) m.generations
  pub held : AreHeld (with_event r (merge_drop caller m.merge)) (after_release m.generations hs)

pub held_drop : (r : Record) (caller : ℕ) (m : Merge) (hs : List Held) → MayEnd r m
    → AreHeld r hs → Drops r hs caller m
held_drop r caller m hs may are =
    let e = merge_drop caller m.merge in
    let after = counts_follow.drops_merge r caller m hs may are.counts in
    record {
      holders = after.held;
      held = held_after r e hs (after_release m.generations hs) are after.holds
          (rise_released m.generations hs are.rise) (nothing_begun r e refl (λ n. refl)) refl
          (rw (skips drawn_generation r.history e refl) are.drawn_rise);
    }

-- what a merge that ends asks of its generations, and gives up
pub record Ends (r : Record) (hs : List Held) (e : HistoryEvent) (gens : List ℕ) : Type 0 where
  pub holders : All (IsCurrentAndHeld hs) gens
  pub freed : given_up hs (after_retire gens hs) ≡ released r e

pub held_none : (r : Record) (caller : ℕ) (m : Merge) (gone : List ℕ) (hs : List Held)
    → MayEnd r m → AreHeld r hs
    → Ends r hs (merge_end caller m.merge None gone) m.generations
    × AreHeld (with_event r (merge_end caller m.merge None gone)) (after_retire m.generations hs)
held_none r caller m gone hs may are =
    let e = merge_end caller m.merge None gone in
    let after = counts_follow.ends_merge r caller m gone hs may are.drawn_before are.drawn_rise
    are.rise are.counts in (
      record { holders = after.0.held; freed = after.0.freed },
      held_after r e hs (after_retire m.generations hs) are after.1
          (rise_retired m.generations hs are.rise) (nothing_begun r e refl (λ n. refl)) refl
          (rw (skips drawn_generation r.history e refl) are.drawn_rise),
    )

pub held_some : (r : Record) (caller : ℕ) (m : Merge) (into : ℕ) (gone : List ℕ) (hs : List Held)
    → MayEnd r m → AllByRecursion (λ g. g < into) (drawn r) → AreHeld r hs
    → Ends r hs (merge_end caller m.merge (Some into) gone) m.generations
    × (is_held (after_retire m.generations hs) into ≡ false)
    × AreHeld (with_event r (merge_end caller m.merge (Some into) gone))
    (with_current into (after_retire m.generations hs))
held_some r caller m into gone hs may less are =
    let e = merge_end caller m.merge (Some into) gone in
    let new = undrawn into (drawn r) less in
    let after = counts_follow.ends_with r caller m into gone hs may are.drawn_before new
    are.drawn_rise are.rise are.counts in (
      record { holders = after.0.held; freed = after.0.freed },
      after.1,
      held_after r e hs (with_current into (after_retire m.generations hs)) are after.2
          (rise-with_current into (after_retire m.generations hs) after.1
          (rise_retired m.generations hs are.rise)) (nothing_begun r e refl (λ n. refl)) refl
          (rw (filter_map-append drawn_generation r.history (e ∷ []))
          (rises_more 0 into (drawn r) are.drawn_rise less (omega arith))),
    )
