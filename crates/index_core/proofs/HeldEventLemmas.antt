-- What is held after each event: a record's counts, as its events change them.
use Rattle.std.proofs.Common.{◌≡◌, ◌+◌, ℕ, Bool, true, false, cond, not, nat_eq}
use Rattle.std.proofs.Common.{◌&&◌, ◌||◌, List, [], ◌∷◌, ◌++◌, length, map, refl, sym, ap, ◌∙◌}
use Rattle.std.proofs.Common.{arith, subst}
use Rattle.std.specs.Prelude.{filter}
use Rattle.std.specs.List.{AllByRecursion, filter_map, flat_map, list_any}
use Rattle.std.proofs.lemmas.Bool.Decides.{nat_tests}
use Rattle.std.proofs.lemmas.List.Elements.{filter_map-append, filter-append}
use Rattle.std.proofs.lemmas.List.Folds.{list_any-append}
use Rattle.sg_paths.specs.Operations.{PlainOp}
use Rattle.index_holds.specs.declared.held.Held.{Held}
use Rattle.index_holds.specs.Holders.{with_holder, with_current}
use Rattle.index_core.specs.Histories.{HistoryEvent, freeze, Record, View, Merge, is_among}
use Rattle.index_core.specs.Histories.{begun_view, ended_view, closed_merge, ended_merge}
use Rattle.index_core.specs.Histories.{drawn_generation, replaced, merges_from}
use Rattle.index_core.specs.Histories as events
use Rattle.index_core.specs.Records.{with_event, drawn, current, open_views, open_merges}
use Rattle.index_core.specs.Records.{begun_merges, is_referenced}
use Rattle.index_core.specs.Calls.{beginning}
use Rattle.index_core.specs.HeldGenerations.{AreHolds, WereDrawn}
use Rattle.index_core.specs.HeldEvents.{with_both, AreDrawn, BeginsDrawn, IsQuiet, AreInUse}
use Rattle.index_core.proofs.EventLemmas.{frozen_after, merges-more, current-skip}
use Rattle.index_core.proofs.EventLemmas.{open_merges-skip, replaced-skip}
use Rattle.index_core.proofs.HoldingLemmas.{count_with}
use Rattle.index_core.proofs.HoldsLemmas.{holds_same, holds_current, holds_held}
use Rattle.index_core.proofs.ListLemmas.{all_weaker, all_filter, all_both}
use Rattle.index_core.proofs.RisingLemmas.{among-filter, all_among}
use Rattle.index_core.proofs.ViewLemmas.{open_views-skip, open_views-begin}

-- ---- what wasn't drawn

any_drawn : {X : Type 0} (r : Record) (gens : X → List ℕ) (g : ℕ) (xs : List X)
    → AllByRecursion (λ x. WereDrawn r (gens x)) xs → list_any (λ x. is_among g (gens x)) xs ≡ true
    → is_among g (drawn r) ≡ true
any_drawn r gens g [] all is = let no : false ≡ true = is in absurd cc
any_drawn r gens g (x ∷ xs) all is =
    by_test (is_among g (gens x)) refl (λ later. any_drawn r gens g xs all.1 later) is
  where
    by_test : (b : Bool) → is_among g (gens x) ≡ b
        → (list_any (λ y. is_among g (gens y)) xs ≡ true → is_among g (drawn r) ≡ true)
        → (b || list_any (λ y. is_among g (gens y)) xs) ≡ true → is_among g (drawn r) ≡ true
    by_test true there again e =
        all_among (λ n. is_among n (drawn r) ≡ true) g (gens x) all.0 there
    by_test false there again e = again e

pub current_drawn : (r : Record) (g : ℕ) → is_among g (current r) ≡ true
    → is_among g (drawn r) ≡ true
current_drawn r g is =
    first (is_among g (drawn r)) (not (is_among g (replaced r.history)))
    (sym (among-filter (λ n. not (is_among n (replaced r.history))) g (drawn r)) ∙ is)
  where
    first : (a b : Bool) → (a && b) ≡ true → a ≡ true
    first true b h = refl
    first false b h = h

pub referenced_drawn : (r : Record) → AreDrawn r → (g : ℕ) → is_referenced r g ≡ true
    → is_among g (drawn r) ≡ true
referenced_drawn r are g is =
    by_tests (is_among g (current r)) (list_any (λ v. is_among g v.generations) (open_views r))
    (list_any (λ m. is_among g m.generations) (open_merges r)) refl refl refl is
  where
    by_tests : (a b c : Bool) → is_among g (current r) ≡ a
        → list_any (λ v. is_among g v.generations) (open_views r) ≡ b
        → list_any (λ m. is_among g m.generations) (open_merges r) ≡ c
        → (a || (b || c)) ≡ true → is_among g (drawn r) ≡ true
    by_tests true b c p q s e = current_drawn r g p
    by_tests false true c p q s e =
        any_drawn r (λ (v : View). v.generations) g (open_views r)
        (all_filter (λ (v : View). WereDrawn r v.generations)
        (λ v. not (is_among v.view (filter_map ended_view r.history)))
        (events.begun_views r.history) are.views) q
    by_tests false false true p q s e =
        any_drawn r (λ (m : Merge). m.generations) g (open_merges r)
        (all_filter (λ (m : Merge). WereDrawn r m.generations)
        (λ m. not (is_among m.merge (filter_map closed_merge r.history))) (begun_merges r)
        are.merges) s
    by_tests false false false p q s e = let no : false ≡ true = e in absurd cc

pub undrawn_unreferenced : (r : Record) → AreDrawn r → (g : ℕ) → is_among g (drawn r) ≡ false
    → is_referenced r g ≡ false
undrawn_unreferenced r are g out = by_test (is_referenced r g) refl
  where
    by_test : (b : Bool) → is_referenced r g ≡ b → b ≡ false
    by_test false is = refl
    by_test true is = let no : true ≡ false = sym (referenced_drawn r are g is) ∙ out in cc

pub among_any : (g : ℕ) (ms : List Merge) → is_among g (flat_map (λ m. m.generations) ms)
    ≡ list_any (λ m. is_among g m.generations) ms
among_any g [] = refl
among_any g (m ∷ ms) =
    list_any-append (nat_eq g) m.generations (flat_map (λ x. x.generations) ms)
    ∙ ap (λ (b : Bool). is_among g m.generations || b) (among_any g ms)

pub undrawn_not_replaced : (r : Record) → AreDrawn r → (g : ℕ) → is_among g (drawn r) ≡ false
    → is_among g (replaced r.history) ≡ false
undrawn_not_replaced r are g out = by_test (is_among g (replaced r.history)) refl
  where
    test : Merge → Bool
    test m = is_among m.merge (filter_map ended_merge r.history)

    by_test : (b : Bool) → is_among g (replaced r.history) ≡ b → b ≡ false
    by_test false is = refl
    by_test true is =
        let there = any_drawn r (λ (m : Merge). m.generations) g (filter test (begun_merges r))
        (all_filter (λ (m : Merge). WereDrawn r m.generations) test (begun_merges r) are.merges)
        (sym (among_any g (filter test (begun_merges r))) ∙ is) in
        let no : true ≡ false = sym there ∙ out in cc

-- ---- events that change no count

pub holds-quiet : (r : Record) (e : HistoryEvent) (journal : List PlainOp) → IsQuiet e
    → (hs : List Held) → AreHolds r hs → AreHolds (with_both r e journal) hs
holds-quiet r e journal quiet hs are =
    holds_same r (with_both r e journal)
    (λ g. ap (is_among g) (current-skip r.history e quiet.merges quiet.replaces quiet.draws))
    (λ g. ap (λ (vs : List View). length (filter (λ v. is_among g v.generations) vs)
    + length (filter (λ m. is_among g m.generations) (open_merges (with_both r e journal))))
    (open_views-skip r.history e quiet.begins quiet.ends)
    ∙ ap (λ (ms : List Merge). length (filter (λ v. is_among g v.generations) (open_views r))
    + length (filter (λ m. is_among g m.generations) ms))
    (open_merges-skip r.history e quiet.merges quiet.closes)) hs are

-- ---- generations stay drawn

were_drawn_still : (r : Record) (e : HistoryEvent) (journal : List PlainOp) (gens : List ℕ)
    → WereDrawn r gens → WereDrawn (with_both r e journal) gens
were_drawn_still r e journal gens were =
    all_weaker (λ g. is_among g (drawn r) ≡ true)
    (λ g. is_among g (drawn (with_both r e journal)) ≡ true)
    (λ g there.
    ap (is_among g) (filter_map-append drawn_generation r.history (e ∷ []))
    ∙ list_any-append (nat_eq g) (drawn r) (filter_map drawn_generation (e ∷ []))
    ∙ ap (λ (b : Bool). b || is_among g (filter_map drawn_generation (e ∷ []))) there) gens were

pub drawn_still : (r : Record) (e : HistoryEvent) (journal : List PlainOp) → AreDrawn r
    → BeginsDrawn r e → AreDrawn (with_both r e journal)
drawn_still r e journal are begins = record {
  views = subst (λ (vs : List View).
      AllByRecursion (λ v. WereDrawn (with_both r e journal) v.generations) vs)
      (sym (filter_map-append begun_view r.history (e ∷ [])))
      (all_weaker (λ v. WereDrawn r v.generations)
      (λ v. WereDrawn (with_both r e journal) v.generations)
      (λ v. were_drawn_still r e journal v.generations)
      (events.begun_views r.history ++ filter_map begun_view (e ∷ []))
      (all_both (λ v. WereDrawn r v.generations) (events.begun_views r.history)
      (filter_map begun_view (e ∷ [])) are.views begins.view));
  merges = subst (λ (ms : List Merge).
      AllByRecursion (λ m. WereDrawn (with_both r e journal) m.generations) ms)
      (sym (merges-more 0 r.history e))
      (all_weaker (λ m. WereDrawn r m.generations)
      (λ m. WereDrawn (with_both r e journal) m.generations)
      (λ m. were_drawn_still r e journal m.generations)
      (begun_merges r ++ merges_from (frozen_after 0 r.history) (e ∷ []))
      (all_both (λ m. WereDrawn r m.generations) (begun_merges r)
      (merges_from (frozen_after 0 r.history) (e ∷ [])) are.merges
      (begins.merge (frozen_after 0 r.history))));
}

-- ---- a freeze

pub last_first : (n g : ℕ) (gs : List ℕ)
    → is_among n (gs ++ g ∷ []) ≡ (nat_eq g n || is_among n gs)
last_first n g gs =
    list_any-append (nat_eq n) gs (g ∷ [])
    ∙ ap (λ (b : Bool). is_among n gs || (b || false)) (turned n g)
    ∙ swapped (is_among n gs) (nat_eq g n)
  where
    turned : (a b : ℕ) → nat_eq a b ≡ nat_eq b a
    turned a b = grind (arith, nat_tests)

    swapped : (a b : Bool) → (a || (b || false)) ≡ (b || a)
    swapped true true = refl
    swapped true false = refl
    swapped false true = refl
    swapped false false = refl

pub current-freeze : (r : Record) (caller g f u : ℕ) → is_among g (replaced r.history) ≡ false
    → current (with_event r (freeze caller g f u)) ≡ current r ++ g ∷ []
current-freeze r caller g f u out =
    let e = freeze caller g f u in
    let test : ℕ → Bool = λ n. not (is_among n (replaced r.history)) in
    ap (λ (ns : List ℕ). filter (λ n. not (is_among n ns)) (drawn (with_event r e)))
    (replaced-skip r.history e (λ n. refl) refl)
    ∙ ap (filter test) (filter_map-append drawn_generation r.history (e ∷ []))
    ∙ filter-append test (drawn r) (g ∷ [])
    ∙ ap (λ (b : Bool). current r ++ cond (not b) (g ∷ []) []) out

pub holds-freeze : (r : Record) (caller g f u : ℕ) → AreDrawn r → is_among g (drawn r) ≡ false
    → (hs : List Held) → AreHolds r hs
    → AreHolds (with_event r (freeze caller g f u)) (with_current g hs)
holds-freeze r caller g f u drawn out hs are =
    let e = freeze caller g f u in
    holds_current r (with_event r e) g (undrawn_unreferenced r drawn g out)
    (λ n. ap (is_among n)
    (current-freeze r caller g f u (undrawn_not_replaced r drawn g out))
    ∙ last_first n g (current r))
    (λ n. ap (λ (vs : List View). length (filter (λ v. is_among n v.generations) vs)
    + length (filter (λ m. is_among n m.generations) (open_merges (with_event r e))))
    (open_views-skip r.history e refl refl)
    ∙ ap (λ (ms : List Merge). length (filter (λ v. is_among n v.generations) (open_views r))
    + length (filter (λ m. is_among n m.generations) ms))
    (open_merges-skip r.history e (λ k. refl) refl)) hs are

-- ---- a view begins

pub holds-begin : (r : Record) (v : View)
    → is_among v.view (filter_map ended_view r.history) ≡ false
    → AreInUse r v.generations → (hs : List Held) → AreHolds r hs
    → AreHolds (with_event r (beginning v)) (map (with_holder v.generations) hs)
holds-begin r v new used hs are =
    let e = beginning v in
    holds_held r (with_event r e) v.generations
    (λ g. ap (is_among g) (current-skip r.history e (λ k. refl) refl refl))
    (λ g.
    let views = ap (λ (vs : List View). length (filter (λ w. is_among g w.generations) vs))
    (open_views-begin r.history v new)
    ∙ count_with (λ w. is_among g w.generations) (open_views r) v in
    let merges = ap (λ (ms : List Merge). length (filter (λ m. is_among g m.generations) ms))
    (open_merges-skip r.history e (λ k. refl) refl) in
    omega (arith, views, merges))
    used hs are
