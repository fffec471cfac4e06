-- Each value computes.
use Rattle.std.proofs.Common.{◌≡◌, ◌<◌, ◌≤◌, ◌∙◌, ℕ, zero, suc, true, false, Some, None}
use Rattle.std.proofs.Common.{[], ◌∷◌, length, refl, sym, ap, arith}
use Rattle.std.specs.Prelude.{Contains, slice_index_or}
use Rattle.index_core.specs.Histories.{Merge}
use Rattle.index_core.specs.LegalHistories.{IsOpenMerge, merged_generation}
use Rattle.index_core.specs.WorkedHistories.{AddsAndDeletes, MergesWithALateDelete}
use Rattle.index_core.specs.WorkedHistories.{MergesByNumber, MergesToNone, EventsMeetTheirLines}
use Rattle.index_core.specs.WorkedHistories.{EventsMissTheirLines, merging, merge}
use Rattle.index_core.proofs.laws.worked_histories.Goals as goal

adds_and_deletes : AddsAndDeletes
adds_and_deletes = record {
  counts = (refl, refl, refl);
  generations = refl;
  documents = refl;
  deletes_hold_none = refl;
  segments = (refl, refl);
  deletes_applied = (refl, refl, refl);
  unknown_deletes = refl;
  known_deletes = refl;
  nothing_to_merge = refl;
  mostly_deleted = refl;
}

late_delete : MergesWithALateDelete
late_delete = record {
  is_open = refl;
  is_held = refl;
  nothing_else = refl;
  keeps = refl;
  into = refl;
  replaced = (refl, refl);
  documents = refl;
  state = (refl, refl);
  released_by_merge = refl;
  held_by_view = refl;
  released_by_view = refl;
  dropped = refl;
}

by_number : MergesByNumber
by_number = record {
  holds = (refl, refl);
  keeps = refl;
  into = refl;
  two_contexts = refl;
}

to_none : MergesToNone
to_none = record {
  keeps = refl;
  into = refl;
  replaced = (refl, refl);
}

one : 0 < 1
one = omega arith

two : 0 < 2
two = omega arith

next : EventsMeetTheirLines
next = record {
  is_built = ((0, one, refl), refl);
  learns_deletes = ((0, two, refl), refl, omega arith, omega arith);
  merge_begins = (refl, refl);
  merge_ends =
      (merge, record { is_open = (0, one, refl); by_caller = refl; number = refl }, refl, refl);
  merge_ends_under_view =
      (merge, record { is_open = (0, one, refl); by_caller = refl; number = refl }, refl, refl);
  merge_ends_empty = (
    record { caller = 0; merge = 1; upto = 6; generations = 1 ∷ [] },
    record { is_open = (0, one, refl); by_caller = refl; number = refl },
    refl,
    refl,
  );
  merge_is_dropped =
      (merge, record { is_open = (0, one, refl); by_caller = refl; number = refl });
}

-- the only merge is that one
only_merge : (only m : Merge) → Contains (only ∷ []) m → only ≡ m
only_merge only m there = by_place there.0 there.1 there.2
  where
    by_place : (k : ℕ) → k < length (only ∷ []) → slice_index_or (only ∷ []) k m ≡ m → only ≡ m
    by_place zero within is = is
    by_place (suc k) within is = absurd (omega (arith, within))

-- nothing is in the empty list
none_there : (m : Merge) → Contains [] m → ⊥
none_there m there = let within : there.0 < 0 = there.1 in omega (arith, within)

-- a number isn't one of two lesser ones
neither : (g h greater : ℕ) → g < greater → h < greater → Contains (g ∷ h ∷ []) greater → ⊥
neither g h greater first second there = by_place there.0 there.1 there.2
  where
    by_place : (k : ℕ) → k < length (g ∷ h ∷ [])
        → slice_index_or (g ∷ h ∷ []) k greater ≡ greater → ⊥
    by_place zero within is = let same : g ≡ greater = is in omega (arith, first, same)
    by_place (suc zero) within is = let same : h ≡ greater = is in omega (arith, second, same)
    by_place (suc (suc k)) within is = omega (arith, within)

-- some isn't none
none_differs : {A : Type 0} (x : A) → None ≡ Some x → ⊥
none_differs x wrong = absurd cc

-- true isn't false
true_differs : true ≡ false → ⊥
true_differs wrong = absurd cc

-- a list isn't the same with an element more
longer_differs : (g h : ℕ) → Some (g ∷ []) ≡ Some (g ∷ h ∷ []) → ⊥
longer_differs g h wrong = absurd cc

-- nor is it empty
empty_differs : (g : ℕ) → g ∷ [] ≡ [] → ⊥
empty_differs g wrong = absurd cc

-- another caller has begun it
of_another : (m : Merge) → IsOpenMerge merging 1 1 m → ⊥
of_another m is =
    let same : merge ≡ m = only_merge merge m is.is_open in
    let caller : 0 ≡ 1 = ap (λ (x : Merge). x.caller) same ∙ is.by_caller in
    omega (arith, caller)

-- it doesn't end without a generation
keeps_one : (m : Merge) → IsOpenMerge merging 0 1 m → None ≡ merged_generation merging m → ⊥
keeps_one m is into =
    let same : merge ≡ m = only_merge merge m is.is_open in
    none_differs 4 (into ∙ sym (ap (λ (x : Merge). merged_generation merging x) same))

not_next : EventsMissTheirLines
not_next = record {
  built_before_drawn = λ line. neither 1 2 3 (omega arith) (omega arith) line.0;
  built_twice = λ line. true_differs line.1;
  known_deletes = λ line. let wrong : 5 < 5 = line.2 in omega (arith, wrong);
  unfrozen_deletes = λ line. let wrong : 6 ≤ 5 = line.3 in omega (arith, wrong);
  without_segment = λ line. true_differs (sym line.1);
  not_planned = λ line. none_differs (1 ∷ []) line.1;
  planned_otherwise = λ line. longer_differs 1 2 line.1;
  another_number = λ line. let wrong : 2 ≡ 1 = line.0 in omega (arith, wrong);
  ended_by_another = λ line. of_another line.0 line.1;
  ended_unopened = λ line. none_there line.0 line.1.is_open;
  a_document_lost = λ line. keeps_one line.0 line.1 line.2;
  released_early = λ line. empty_differs 1 line.3;
  dropped_by_another = λ line. of_another line.0 line.1;
  dropped_unopened = λ line. none_there line.0 line.1.is_open;
  dropped_twice = λ line. none_there line.0 line.1.is_open;
}

pub returns : goal.returns
returns c = record {
  adds_and_deletes = adds_and_deletes;
  late_delete = late_delete;
  by_number = by_number;
  to_none = to_none;
  next = next;
  not_next = not_next;
}
