-- What holds of the merges of a record holds after each event.
use Rattle.std.proofs.Common.{◌≡◌, ◌≤◌, ◌<◌, ◌+◌, ℕ, Bool, true, false, cond, not}
use Rattle.std.proofs.Common.{nat_eq, ◌||◌, None, List, [], ◌∷◌, ◌++◌, length, refl, sym}
use Rattle.std.proofs.Common.{ap, ◌∙◌, subst, arith}
use Rattle.std.specs.Prelude.{filter, fold, Contains}
use Rattle.std.specs.List.{AllByRecursion, filter_map, list_any}
use Rattle.std.proofs.lemmas.List.{length-append}
use Rattle.std.proofs.lemmas.List.Elements.{filter_map-append}
use Rattle.sg_paths.specs.Operations.{PlainOp}
use Rattle.index_core.specs.Histories.{HistoryEvent, accept, freeze, begin, built}
use Rattle.index_core.specs.Histories.{live_docs_updated, merge_begin, merge_end, merge_drop}
use Rattle.index_core.specs.Histories.{view_end, Record, Merge, is_among, closed_merge, frozen_upto}
use Rattle.index_core.specs.Records.{with_event, frozen, current, begun_merges, next_merge}
use Rattle.index_core.specs.Records.{open_merges, next_generation}
use Rattle.index_core.specs.HeldGenerations.{RisesFrom}
use Rattle.index_core.specs.HeldEvents.{with_both, AreDrawn, AreInUse, MayEnd}
use Rattle.index_core.specs.MergeCalls.{without_merge}
use Rattle.index_core.specs.MergedPieces.{IsEnding}
use Rattle.index_core.specs.Keeping.{AreMergesFrom, AreHeldOnce, AreMerges, IsPlain}
use Rattle.index_core.proofs.ListLemmas.{all_weaker, all_more, in_all}
use Rattle.index_core.proofs.HistoryLemmas.{skips, frozen-skip}
use Rattle.index_core.proofs.EventLemmas.{begun_by, frozen_after, merges-skip, open_merges-skip}
use Rattle.index_core.proofs.HoldingLemmas.{one_if, count_with, count_without}
use Rattle.index_core.proofs.OpenMergeLemmas.{new_merge, begun_merges-begin, open_merges-begin}
use Rattle.index_core.proofs.OpenMergeLemmas.{current-begin, open_merges-close}
use Rattle.index_core.proofs.ListLemmas.{all_filter}
use Rattle.index_core.proofs.KnownMergeLemmas.{of_each, known, next_not_closed}
use Rattle.index_core.proofs.KnownMergeLemmas.{next_not_ended, open_alone, open_before, open_once}

-- ---- an event that neither begins nor closes a merge

pub merges_quiet : (r : Record) (e : HistoryEvent) (journal : List PlainOp) → AreMerges r
    → ((k : ℕ) → begun_by k e ≡ []) → closed_merge e ≡ None
    → frozen r ≤ frozen (with_both r e journal)
    → ((g : ℕ) → is_among g (current r) ≡ true
    → is_among g (current (with_both r e journal)) ≡ true)
    → AreHeldOnce (with_both r e journal) → AreMerges (with_both r e journal)
merges_quiet r e journal are none closes more stay once =
    let r' = with_both r e journal in
    let begun : begun_merges r' ≡ begun_merges r = merges-skip r.history e none in
    let opened : open_merges r' ≡ open_merges r = open_merges-skip r.history e none closes in
    record {
      numbers = subst (AreMergesFrom 1) (sym begun) are.numbers;
      closed_before = subst (λ (ms : List Merge). AllByRecursion (λ n. n < length ms + 1)
          (filter_map closed_merge r'.history)) (sym begun)
          (subst (AllByRecursion (λ n. n < next_merge r))
          (sym (skips closed_merge r.history e closes)) are.closed_before);
      within = subst (AllByRecursion (λ (m : Merge). m.upto ≤ frozen r')) (sym begun)
          (all_weaker (λ (m : Merge). m.upto ≤ frozen r) (λ m. m.upto ≤ frozen r')
          (λ m upto. omega (arith, upto, more)) (begun_merges r) are.within);
      rise = subst (AllByRecursion (λ (m : Merge). RisesFrom 0 m.generations)) (sym begun) are.rise;
      in_use = subst (AllByRecursion (λ (m : Merge). AreInUse r' m.generations)) (sym opened)
          (all_weaker (λ (m : Merge). AreInUse r m.generations) (λ m. AreInUse r' m.generations)
          (λ m used g there. stay g (used g there)) (open_merges r) are.in_use);
      apart = λ g. subst (λ (ms : List Merge).
          length (filter (λ m. is_among g m.generations) ms) ≤ 1) (sym opened) (are.apart g);
      once = once;
    }

-- ---- a merge begins

pub frozen_after-is : (n : ℕ) (h : List HistoryEvent)
    → frozen_after n h ≡ fold (λ _ u. u) n (filter_map frozen_upto h)
frozen_after-is n [] = refl
frozen_after-is n (accept a b ∷ h) = frozen_after-is n h
frozen_after-is n (freeze a b f u ∷ h) = frozen_after-is u h
frozen_after-is n (begin a b u gs ∷ h) = frozen_after-is n h
frozen_after-is n (built a b ∷ h) = frozen_after-is n h
frozen_after-is n (live_docs_updated a b c ∷ h) = frozen_after-is n h
frozen_after-is n (merge_begin a b gs ∷ h) = frozen_after-is n h
frozen_after-is n (merge_end a b i gone ∷ h) = frozen_after-is n h
frozen_after-is n (merge_drop a b ∷ h) = frozen_after-is n h
frozen_after-is n (view_end a b gone ∷ h) = frozen_after-is n h

numbers-more : (first : ℕ) (ms : List Merge) (m : Merge) → AreMergesFrom first ms
    → m.merge ≡ first + length ms → AreMergesFrom first (ms ++ m ∷ [])
numbers-more first [] m numbered is = (omega (arith, is), tt)
numbers-more first (x ∷ xs) m numbered is =
    (numbered.0, numbers-more (first + 1) xs m numbered.1 (omega (arith, is)))

-- where no item passes, none is counted
none_counted : {X : Type 0} (p : X → Bool) (xs : List X) → list_any p xs ≡ false
    → length (filter p xs) ≡ 0
none_counted p [] none = refl
none_counted p (x ∷ xs) none = by_test (p x) (none_counted p xs) none
  where
    by_test : (b : Bool) → (list_any p xs ≡ false → length (filter p xs) ≡ 0)
        → (b || list_any p xs) ≡ false → length (cond b (x ∷ filter p xs) (filter p xs)) ≡ 0
    by_test true again none' = absurd (let no : true ≡ false = none' in cc)
    by_test false again none' = again none'

-- generations that are current and that no open merge has
module _ (r : Record) (caller : ℕ) (gens : List ℕ) (are : AreMerges r) (used : AreInUse r gens)
    (free : AllByRecursion (λ g. list_any (λ m. is_among g m.generations) (open_merges r) ≡ false)
    gens) (rises : RisesFrom 0 gens) where
  abbrev e-begin : HistoryEvent
  e-begin = merge_begin caller (next_merge r) gens

  abbrev r-begin : Record
  r-begin = with_event r e-begin

  abbrev m-new : Merge
  m-new = new_merge r.history caller (next_merge r) gens

  pub current-same : current r-begin ≡ current r
  current-same = current-begin r.history caller (next_merge r) gens (next_not_ended r are)

  pub open-more : open_merges r-begin ≡ open_merges r ++ m-new ∷ []
  open-more = open_merges-begin r.history caller (next_merge r) gens (next_not_closed r are)

  frozen-same : frozen r-begin ≡ frozen r
  frozen-same = frozen-skip r.history e-begin refl

  counted_once : (g : ℕ)
      → length (filter (λ m. is_among g m.generations) (open_merges r ++ m-new ∷ [])) ≤ 1
  counted_once g =
      let split = count_with (λ (m : Merge). is_among g m.generations) (open_merges r) m-new in
      by_test (is_among g gens) refl split
    where
      by_test : (b : Bool) → is_among g gens ≡ b
          → length (filter (λ m. is_among g m.generations) (open_merges r ++ m-new ∷ []))
          ≡ length (filter (λ m. is_among g m.generations) (open_merges r)) + one_if b
          → length (filter (λ m. is_among g m.generations) (open_merges r ++ m-new ∷ [])) ≤ 1
      by_test true there split' =
          let none = none_counted (λ (m : Merge). is_among g m.generations) (open_merges r)
          (in_all (λ x. list_any (λ m. is_among x m.generations) (open_merges r) ≡ false) g gens
          there free) in
          omega (arith, split', none)
      by_test false there split' = let few = are.apart g in omega (arith, split', few)

  pub merges_begin : AreHeldOnce r-begin → AreMerges r-begin
  merges_begin once =
      let begun : begun_merges r-begin ≡ begun_merges r ++ m-new ∷ [] =
      begun_merges-begin r.history caller (next_merge r) gens in
      let more = length-append (begun_merges r) (m-new ∷ []) in
      let upto : frozen_after 0 r.history ≡ frozen r = frozen_after-is 0 r.history in
      let stay : (m : Merge) → AreInUse r m.generations → AreInUse r-begin m.generations =
      λ m held g there. ap (is_among g) current-same ∙ held g there in
      record {
        numbers = subst (AreMergesFrom 1) (sym begun)
            (numbers-more 1 (begun_merges r) m-new are.numbers (omega arith));
        closed_before = subst (λ (ms : List Merge). AllByRecursion (λ n. n < length ms + 1)
            (filter_map closed_merge r-begin.history)) (sym begun)
            (subst (AllByRecursion (λ n. n < length (begun_merges r ++ m-new ∷ []) + 1))
            (sym (skips closed_merge r.history e-begin refl))
            (all_weaker (λ n. n < next_merge r)
            (λ n. n < length (begun_merges r ++ m-new ∷ []) + 1)
            (λ n below. omega (arith, below, more)) (filter_map closed_merge r.history)
            are.closed_before));
        within = subst (AllByRecursion (λ (m : Merge). m.upto ≤ frozen r-begin)) (sym begun)
            (subst (λ (n : ℕ). AllByRecursion (λ (m : Merge). m.upto ≤ n)
            (begun_merges r ++ m-new ∷ [])) (sym frozen-same)
            (all_more (λ (m : Merge). m.upto ≤ frozen r) (begun_merges r) m-new are.within
            (omega (arith, upto))));
        rise = subst (AllByRecursion (λ (m : Merge). RisesFrom 0 m.generations)) (sym begun)
            (all_more (λ (m : Merge). RisesFrom 0 m.generations) (begun_merges r) m-new are.rise
            rises);
        in_use = subst (AllByRecursion (λ (m : Merge). AreInUse r-begin m.generations))
            (sym open-more)
            (all_more (λ (m : Merge). AreInUse r-begin m.generations) (open_merges r) m-new
            (all_weaker (λ (m : Merge). AreInUse r m.generations)
            (λ m. AreInUse r-begin m.generations) stay (open_merges r) are.in_use)
            (stay m-new used));
        apart = λ g. subst (λ (ms : List Merge).
            length (filter (λ m. is_among g m.generations) ms) ≤ 1) (sym open-more)
            (counted_once g);
        once = once;
      }

-- ---- an open merge is closed

-- where none of some merges has a generation of a list, each of their generations is another
apart_all : (gens : List ℕ) (ms : List Merge)
    → ((g : ℕ) → is_among g gens ≡ true
    → length (filter (λ m. is_among g m.generations) ms) ≡ 0)
    → AllByRecursion (λ m. (g : ℕ) → is_among g m.generations ≡ true → is_among g gens ≡ false) ms
apart_all gens [] none = tt
apart_all gens (m ∷ ms) none = (
  λ g there. by_test g there (is_among g gens) refl,
  apart_all gens ms (λ g is. later (is_among g m.generations) g (none g is)),
)
  where
    by_test : (g : ℕ) → is_among g m.generations ≡ true → (b : Bool) → is_among g gens ≡ b
        → b ≡ false
    by_test g there false is = refl
    by_test g there true is =
        let one : length (cond true (m ∷ filter (λ x. is_among g x.generations) ms)
        (filter (λ x. is_among g x.generations) ms)) ≡ 0 =
        subst (λ (b : Bool). length (cond b (m ∷ filter (λ x. is_among g x.generations) ms)
        (filter (λ x. is_among g x.generations) ms)) ≡ 0) there (none g is) in
        absurd (omega (arith, one))

    later : (b : Bool) (g : ℕ)
        → length (cond b (m ∷ filter (λ x. is_among g x.generations) ms)
        (filter (λ x. is_among g x.generations) ms)) ≡ 0
        → length (filter (λ x. is_among g x.generations) ms) ≡ 0
    later true g is = absurd (omega (arith, is))
    later false g is = is

module _ (r : Record) (are : AreMerges r) (m : Merge) (there : Contains (open_merges r) m) where
  abbrev rest : List Merge
  rest = without_merge m.merge (open_merges r)

  count_rest : (g : ℕ) → length (filter (λ x. is_among g x.generations) (open_merges r))
      ≡ length (filter (λ x. is_among g x.generations) rest) + one_if (is_among g m.generations)
  count_rest g =
      count_without (λ x. x.merge) m (λ x. is_among g x.generations) (open_merges r)
      (open_once r are m there)

  -- the generations of the others aren't its own
  pub others_apart : AllByRecursion
      (λ x. (g : ℕ) → is_among g x.generations ≡ true → is_among g m.generations ≡ false) rest
  others_apart = apart_all m.generations rest (λ g is.
      let split = count_rest g in
      let few = are.apart g in
      let one : one_if (is_among g m.generations) ≡ 1 = ap one_if is in
      omega (arith, split, few, one))

  pub merges_close : (e : HistoryEvent) → ((k : ℕ) → begun_by k e ≡ [])
      → filter_map closed_merge (e ∷ []) ≡ m.merge ∷ [] → frozen_upto e ≡ None
      → ((g : ℕ) → is_among g (current r) ≡ true → is_among g m.generations ≡ false
      → is_among g (current (with_event r e)) ≡ true)
      → AreHeldOnce (with_event r e) → AreMerges (with_event r e)
  merges_close e none closes no-freeze stay once =
      let r' = with_event r e in
      let begun : begun_merges r' ≡ begun_merges r = merges-skip r.history e none in
      let opened : open_merges r' ≡ rest = open_merges-close r.history e m.merge none closes in
      let frozen-same : frozen r' ≡ frozen r = frozen-skip r.history e no-freeze in
      let before = open_before r are m there in
      record {
        numbers = subst (AreMergesFrom 1) (sym begun) are.numbers;
        closed_before = subst (λ (ms : List Merge). AllByRecursion (λ n. n < length ms + 1)
            (filter_map closed_merge r'.history)) (sym begun)
            (subst (AllByRecursion (λ n. n < next_merge r))
            (sym (filter_map-append closed_merge r.history (e ∷ [])
            ∙ ap (λ (ns : List ℕ). filter_map closed_merge r.history ++ ns) closes))
            (all_more (λ n. n < next_merge r) (filter_map closed_merge r.history) m.merge
            are.closed_before before));
        within = subst (AllByRecursion (λ (x : Merge). x.upto ≤ frozen r')) (sym begun)
            (subst (λ (n : ℕ). AllByRecursion (λ (x : Merge). x.upto ≤ n) (begun_merges r))
            (sym frozen-same) are.within);
        rise = subst (AllByRecursion (λ (x : Merge). RisesFrom 0 x.generations)) (sym begun)
            are.rise;
        in_use = subst (AllByRecursion (λ (x : Merge). AreInUse r' x.generations)) (sym opened)
            (used_still rest
            (all_filter (λ x. AreInUse r x.generations) (λ x. not (nat_eq x.merge m.merge))
            (open_merges r) are.in_use) others_apart stay);
        apart = λ g. subst (λ (ms : List Merge).
            length (filter (λ x. is_among g x.generations) ms) ≤ 1) (sym opened)
            (let split = count_rest g in
            let few = are.apart g in
            omega (arith, split, few));
        once = once;
      }
    where
      used_still : (xs : List Merge) → AllByRecursion (λ x. AreInUse r x.generations) xs
          → AllByRecursion
          (λ x. (g : ℕ) → is_among g x.generations ≡ true → is_among g m.generations ≡ false) xs
          → ((g : ℕ) → is_among g (current r) ≡ true → is_among g m.generations ≡ false
          → is_among g (current (with_event r e)) ≡ true)
          → AllByRecursion (λ x. AreInUse (with_event r e) x.generations) xs
      used_still [] used apart still = tt
      used_still (x ∷ xs) used apart still = (
        λ g is. still g (used.0 g is) (apart.0 g is),
        used_still xs used.1 apart.1 still,
      )

-- ---- an open merge may end

pub may_end : (r : Record) (are : AreMerges r) (m : Merge) → Contains (open_merges r) m
    → MayEnd r m
may_end r are m there = record {
  once = open_once r are m there;
  alone = open_alone r are m there;
  in_use = of_each (λ x. AreInUse r x.generations) m (open_merges r) are.in_use there;
}

pub is_ending : (r : Record) (m : Merge) → IsPlain r → AreDrawn r → Contains (open_merges r) m
    → IsEnding r m (next_generation r)
is_ending r m plain were there =
    let are = plain.merges in
    let still : Merge → Bool = λ x. not (is_among x.merge (filter_map closed_merge r.history)) in
    record {
      begun = record {
        known = known r are;
        before = open_before r are m there;
        alone = open_alone r are m there;
        greater = plain.drawn_before;
      };
      least = omega arith;
      in_use = of_each (λ x. AreInUse r x.generations) m (open_merges r) are.in_use there;
      rising = of_each (λ x. RisesFrom 0 x.generations) m (open_merges r)
          (all_filter (λ x. RisesFrom 0 x.generations) still (begun_merges r) are.rise) there;
      one = are.once;
      upto_frozen = of_each (λ x. x.upto ≤ frozen r) m (open_merges r)
          (all_filter (λ x. x.upto ≤ frozen r) still (begun_merges r) are.within) there;
      frozen_within = plain.frozen_within;
      were_drawn = were;
    }
