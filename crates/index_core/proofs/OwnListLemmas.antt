-- The lists of open views and open merges, as these begin and end.
use Rattle.std.proofs.Common.{◌≡◌, ◌≤◌, ◌+◌, ℕ, Bool, true, false, cond, not, nat_eq}
use Rattle.std.proofs.Common.{None}
use Rattle.std.proofs.Common.{List, [], ◌∷◌, ◌++◌, length, map, refl, sym, ap, ◌∙◌, arith}
use Rattle.std.specs.Prelude.{filter}
use Rattle.std.specs.List.{AllByRecursion, filter_map}
use Rattle.std.proofs.lemmas.List.{length-append, map-append}
use Rattle.index_core.specs.Histories.{HistoryEvent, merge_begin, view_end, View, Merge, is_among}
use Rattle.index_core.specs.Histories.{open_views, begun_merges, open_merges}
use Rattle.index_core.specs.Histories.{ended_view, closed_merge, begun_view, merges_from}
use Rattle.index_core.specs.HeldGenerations.{IsOnce}
use Rattle.index_core.specs.MergeCalls.{without_merge}
use Rattle.index_core.specs.Calls.{beginning}
use Rattle.index_core.specs.OwnLists.{PlainOwnList, list_of, without_list, PlainLists, AreLists}
use Rattle.index_core.specs.OwnLists.{view_list, merge_list, with_view_list, without_view_list}
use Rattle.index_core.specs.OwnLists.{with_merge_list, without_merge_list}
use Rattle.index_core.proofs.HeldLemmas.{both_parts}
use Rattle.index_core.proofs.EventLemmas.{merges-skip, open_merges-skip}
use Rattle.index_core.proofs.ViewLemmas.{open_views-skip, open_views-begin, open_views-end}
use Rattle.index_core.proofs.OpenMergeLemmas.{new_merge, begun_merges-begin, open_merges-begin}
use Rattle.index_core.proofs.OpenMergeLemmas.{open_merges-close}

-- ---- lists of items

module _ {X : Type 0} (item : X → PlainOwnList) (n : ℕ) where
  abbrev is_it : X → Bool
  is_it x = nat_eq (item x).number n

  all_others : (xs : List X) → length (filter is_it xs) ≡ 0 → filter (λ x. not (is_it x)) xs ≡ xs
  all_others [] none = refl
  all_others (x ∷ xs) none = by_test (is_it x) none (all_others xs)
    where
      by_test : (b : Bool) → length (cond b (x ∷ filter is_it xs) (filter is_it xs)) ≡ 0
          → (length (filter is_it xs) ≡ 0 → filter (λ y. not (is_it y)) xs ≡ xs)
          → cond (not b) (x ∷ filter (λ y. not (is_it y)) xs) (filter (λ y. not (is_it y)) xs)
          ≡ x ∷ xs
      by_test true none' again = absurd (omega (arith, none'))
      by_test false none' again = ap (λ ys. x ∷ ys) (again none')

  -- where one has the number, the lists without the first are those of the others
  pub without_first : (xs : List X) → length (filter is_it xs) ≤ 1
      → without_list n (map item xs) ≡ map item (filter (λ x. not (is_it x)) xs)
  without_first [] few = refl
  without_first (x ∷ xs) few = by_test (is_it x) few (without_first xs)
    where
      by_test : (b : Bool) → length (cond b (x ∷ filter is_it xs) (filter is_it xs)) ≤ 1
          → (length (filter is_it xs) ≤ 1
          → without_list n (map item xs) ≡ map item (filter (λ y. not (is_it y)) xs))
          → cond b (map item xs) (item x ∷ without_list n (map item xs))
          ≡ map item (cond (not b) (x ∷ filter (λ y. not (is_it y)) xs)
          (filter (λ y. not (is_it y)) xs))
      by_test true few' again =
          ap (λ ys. map item ys) (sym (all_others xs (omega (arith, few'))))
      by_test false few' again = ap (λ ls. item x ∷ ls) (again few')

  -- and its list is under the number
  pub own_list : (x : X) (xs : List X) → length (filter is_it xs) ≡ 1
      → AllByRecursion (λ y. is_it y ≡ true → y ≡ x) xs
      → list_of n (map item xs) ≡ (item x).generations
  own_list x [] one only = absurd (omega (arith, one))
  own_list x (y ∷ ys) one only =
      by_test (is_it y) refl one (λ one'. own_list x ys one' only.1)
    where
      by_test : (b : Bool) → is_it y ≡ b
          → length (cond b (y ∷ filter is_it ys) (filter is_it ys)) ≡ 1
          → (length (filter is_it ys) ≡ 1 → list_of n (map item ys) ≡ (item x).generations)
          → cond b (item y).generations (list_of n (map item ys)) ≡ (item x).generations
      by_test true is one' again = ap (λ z. (item z).generations) (only.0 is)
      by_test false is one' again = again one'

-- ---- a view begins, and ends

pub lists_begin : (h : List HistoryEvent) (lists : PlainLists) (v : View) → AreLists h lists
    → is_among v.view (filter_map ended_view h) ≡ false
    → AreLists (h ++ beginning v ∷ []) (with_view_list v.view v.generations lists)
lists_begin h lists v are new =
    let e = beginning v in
    let merges = open_merges-skip h e (λ k. refl) refl in
    let begun = merges-skip h e (λ k. refl) in
    record {
      views =
          ap (λ (ls : List PlainOwnList). ls ++ view_list v ∷ []) are.views
          ∙ sym (map-append view_list (open_views h) (v ∷ []))
          ∙ ap (λ (vs : List View). map view_list vs) (sym (open_views-begin h v new));
      merges = are.merges ∙ ap (λ (ms : List Merge). map merge_list ms) (sym merges);
      merges_begun = ap (λ (ms : List Merge). length ms) begun ∙ are.merges_begun;
      merges_open = ap (λ (ms : List Merge). length ms) merges ∙ are.merges_open;
      few = omega (arith, are.few, length-append h (e ∷ []));
    }

pub lists_end : (h : List HistoryEvent) (lists : PlainLists) (caller n : ℕ) (gone : List ℕ)
    → AreLists h lists → length (filter (λ v. nat_eq v.view n) (open_views h)) ≤ 1
    → AreLists (h ++ view_end caller n gone ∷ []) (without_view_list n lists)
lists_end h lists caller n gone are few =
    let e = view_end caller n gone in
    let merges = open_merges-skip h e (λ k. refl) refl in
    let begun = merges-skip h e (λ k. refl) in
    record {
      views =
          ap (without_list n) are.views
          ∙ without_first view_list n (open_views h) few
          ∙ ap (λ (vs : List View). map view_list vs) (sym (open_views-end h caller n gone));
      merges = are.merges ∙ ap (λ (ms : List Merge). map merge_list ms) (sym merges);
      merges_begun = ap (λ (ms : List Merge). length ms) begun ∙ are.merges_begun;
      merges_open = ap (λ (ms : List Merge). length ms) merges ∙ are.merges_open;
      few = omega (arith, are.few, length-append h (e ∷ []));
    }

-- ---- a merge begins, and is closed

pub lists_merge : (h : List HistoryEvent) (lists : PlainLists) (caller : ℕ) (gens : List ℕ)
    → AreLists h lists
    → is_among (lists.merges_begun + 1) (filter_map closed_merge h) ≡ false
    → AreLists (h ++ merge_begin caller (lists.merges_begun + 1) gens ∷ [])
    (with_merge_list gens lists)
lists_merge h lists caller gens are new =
    let n : ℕ = lists.merges_begun + 1 in
    let e = merge_begin caller n gens in
    let m = new_merge h caller n gens in
    let views = open_views-skip h e refl refl in
    let opened = open_merges-begin h caller n gens new in
    let begun = begun_merges-begin h caller n gens in
    record {
      views = are.views ∙ ap (λ (vs : List View). map view_list vs) (sym views);
      merges =
          ap (λ (ls : List PlainOwnList). ls ++ merge_list m ∷ []) are.merges
          ∙ sym (map-append merge_list (open_merges h) (m ∷ []))
          ∙ ap (λ (ms : List Merge). map merge_list ms) (sym opened);
      merges_begun =
          ap (λ (ms : List Merge). length ms) begun
          ∙ omega (arith, length-append (begun_merges h) (m ∷ []), are.merges_begun);
      merges_open =
          ap (λ (ms : List Merge). length ms) opened
          ∙ omega (arith, length-append (open_merges h) (m ∷ []), are.merges_open);
      few = omega (arith, are.few, length-append h (e ∷ []));
    }

-- one merge fewer is open
pub one_fewer : (h : List HistoryEvent) (m : Merge) → IsOnce (λ x. x.merge) m (open_merges h)
    → length (without_merge m.merge (open_merges h)) + 1 ≡ length (open_merges h)
one_fewer h m once =
    let all = both_parts (λ (x : Merge). nat_eq x.merge m.merge) (open_merges h) in
    omega (arith, all, once.once)

pub lists_close : (h : List HistoryEvent) (lists : PlainLists) (e : HistoryEvent) (m : Merge)
    → AreLists h lists → IsOnce (λ x. x.merge) m (open_merges h) → begun_view e ≡ None
    → ended_view e ≡ None → ((k : ℕ) → merges_from k (e ∷ []) ≡ [])
    → filter_map closed_merge (e ∷ []) ≡ m.merge ∷ []
    → AreLists (h ++ e ∷ []) (without_merge_list m.merge lists)
lists_close h lists e m are once no-begin no-end none closes =
    let views = open_views-skip h e no-begin no-end in
    let opened = open_merges-close h e m.merge none closes in
    let begun = merges-skip h e none in
    record {
      views = are.views ∙ ap (λ (vs : List View). map view_list vs) (sym views);
      merges =
          ap (without_list m.merge) are.merges
          ∙ without_first merge_list m.merge (open_merges h) (omega (arith, once.once))
          ∙ ap (λ (ms : List Merge). map merge_list ms) (sym opened);
      merges_begun = ap (λ (ms : List Merge). length ms) begun ∙ are.merges_begun;
      merges_open =
          ap (λ (ms : List Merge). length ms) opened
          ∙ omega (arith, one_fewer h m once, are.merges_open);
      few = omega (arith, are.few, length-append h (e ∷ []));
    }
