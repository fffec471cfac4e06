-- Current generations once a merge has ended, and which of them hold a document.
use Rattle.std.proofs.Common.{◌≡◌, ◌≤◌, ◌<◌, ◌+◌, ℕ, Bool, true, false, cond, not, nat_eq}
use Rattle.std.proofs.Common.{◌&&◌, ◌||◌, List, [], ◌∷◌, ◌++◌, length, refl, sym, ap, ◌∙◌}
use Rattle.std.proofs.Common.{arith, Option, Some, None}
use Rattle.std.specs.Prelude.{filter}
use Rattle.std.specs.List.{AllByRecursion, filter_map, flat_map, list_any}
use Rattle.std.proofs.lemmas.Bool.Decides.{nat_tests}
use Rattle.std.proofs.lemmas.List.{append-nil, length-append}
use Rattle.std.proofs.lemmas.List.Elements.{filter-append, filter_agree, filter_map-append}
use Rattle.std.proofs.lemmas.List.Folds.{list_any-append}
use Rattle.sg_paths.specs.Operations.{PlainNumbered}
use Rattle.sg_paths.specs.LiveDocuments.{is_deleted}
use Rattle.index_core.specs.Histories.{HistoryEvent, merge_end, Record, Merge, is_among}
use Rattle.index_core.specs.Histories.{begun_merges, ended_merge, drawn_generation, replaced}
use Rattle.index_core.specs.Records.{with_event, drawn, current}
use Rattle.index_core.specs.Generations.{merges_of, is_kept_by, holders_of}
use Rattle.index_core.specs.EndedMerges.{CurrentAfterMerge, holding, StillOneHolds}
use Rattle.index_core.proofs.EventLemmas.{merges-skip}
use Rattle.index_core.proofs.HistoryLemmas.{skips}
use Rattle.index_core.proofs.MergingLemmas.{or_none, holders_next, not_drawn, brought_holds}
use Rattle.index_core.proofs.RisingLemmas.{same_number, all_among}

-- ---- what is replaced

abbrev gens_of : List Merge → List ℕ
gens_of ms = flat_map (λ m. m.generations) ms

or_mixed : (x a b : Bool) → (x || (a || b)) ≡ ((x || a) || (x || b))
or_mixed true a b = refl
or_mixed false a b = refl

-- of merges whose number passes one test or another
gens_either : (g : ℕ) (t u v : Merge → Bool) (ms : List Merge)
    → ((m : Merge) → v m ≡ (t m || u m))
    → is_among g (gens_of (filter v ms))
    ≡ (is_among g (gens_of (filter t ms)) || is_among g (gens_of (filter u ms)))
gens_either g t u v [] same = refl
gens_either g t u v (m ∷ ms) same =
    ap (λ (b : Bool). is_among g (gens_of (cond b (m ∷ filter v ms) (filter v ms)))) (same m)
    ∙ by_tests (t m) (u m) (gens_either g t u v ms same)
  where
    x : Bool
    x = is_among g m.generations

    by_tests : (b c : Bool)
        → is_among g (gens_of (filter v ms))
        ≡ (is_among g (gens_of (filter t ms)) || is_among g (gens_of (filter u ms)))
        → is_among g (gens_of (cond (b || c) (m ∷ filter v ms) (filter v ms)))
        ≡ (is_among g (gens_of (cond b (m ∷ filter t ms) (filter t ms)))
        || is_among g (gens_of (cond c (m ∷ filter u ms) (filter u ms))))
    by_tests true true e =
        list_any-append (nat_eq g) m.generations (gens_of (filter v ms))
        ∙ ap (λ (b : Bool). is_among g m.generations || b) e
        ∙ or_mixed (is_among g m.generations) (is_among g (gens_of (filter t ms)))
        (is_among g (gens_of (filter u ms)))
        ∙ ap (λ (b : Bool). b || (is_among g m.generations || is_among g (gens_of (filter u ms))))
        (sym (list_any-append (nat_eq g) m.generations (gens_of (filter t ms))))
        ∙ ap (λ (b : Bool). is_among g (m.generations ++ gens_of (filter t ms)) || b)
        (sym (list_any-append (nat_eq g) m.generations (gens_of (filter u ms))))
    by_tests true false e =
        list_any-append (nat_eq g) m.generations (gens_of (filter v ms))
        ∙ ap (λ (b : Bool). is_among g m.generations || b) e
        ∙ shift (is_among g m.generations) (is_among g (gens_of (filter t ms)))
        (is_among g (gens_of (filter u ms)))
        ∙ ap (λ (b : Bool). b || is_among g (gens_of (filter u ms)))
        (sym (list_any-append (nat_eq g) m.generations (gens_of (filter t ms))))
      where
        shift : (a b c : Bool) → (a || (b || c)) ≡ ((a || b) || c)
        shift true b c = refl
        shift false b c = refl
    by_tests false true e =
        list_any-append (nat_eq g) m.generations (gens_of (filter v ms))
        ∙ ap (λ (b : Bool). is_among g m.generations || b) e
        ∙ turn (is_among g m.generations) (is_among g (gens_of (filter t ms)))
        (is_among g (gens_of (filter u ms)))
        ∙ ap (λ (b : Bool). is_among g (gens_of (filter t ms)) || b)
        (sym (list_any-append (nat_eq g) m.generations (gens_of (filter u ms))))
      where
        turn : (a b c : Bool) → (a || (b || c)) ≡ (b || (a || c))
        turn true true c = refl
        turn true false c = refl
        turn false b c = refl
    by_tests false false e = e

filter_both : (p q : ℕ → Bool) (gs : List ℕ)
    → filter (λ g. not (p g || q g)) gs ≡ filter (λ g. not (q g)) (filter (λ g. not (p g)) gs)
filter_both p q [] = refl
filter_both p q (g ∷ gs) = by_test (p g) (filter_both p q gs)
  where
    by_test : (b : Bool)
        → filter (λ x. not (p x || q x)) gs ≡ filter (λ x. not (q x)) (filter (λ x. not (p x)) gs)
        → cond (not (b || q g)) (g ∷ filter (λ x. not (p x || q x)) gs)
        (filter (λ x. not (p x || q x)) gs)
        ≡ filter (λ x. not (q x)) (cond (not b) (g ∷ filter (λ x. not (p x)) gs)
        (filter (λ x. not (p x)) gs))
    by_test true e = e
    by_test false e = ap (λ (zs : List ℕ). cond (not (q g)) (g ∷ zs) zs) e

module _ (r : Record) (caller : ℕ) (m : Merge) (into : Option ℕ) (gone : List ℕ)
    (one : merges_of r m.merge ≡ m ∷ []) where
  abbrev e : HistoryEvent
  e = merge_end caller m.merge into gone

  abbrev h : List HistoryEvent
  h = r.history

  merges-same : begun_merges (h ++ e ∷ []) ≡ begun_merges h
  merges-same = merges-skip h e (λ n. refl)

  replaced-more : (g : ℕ) → is_among g (replaced (h ++ e ∷ []))
      ≡ (is_among g (replaced h) || is_among g m.generations)
  replaced-more g =
      let ended = filter_map ended_merge h in
      let ended' : filter_map ended_merge (h ++ e ∷ []) ≡ ended ++ m.merge ∷ [] =
      filter_map-append ended_merge h (e ∷ []) in
      ap (λ (ms : List Merge). is_among g (gens_of
      (filter (λ x. is_among x.merge (filter_map ended_merge (h ++ e ∷ []))) ms))) merges-same
      ∙ ap (λ (ns : List ℕ). is_among g (gens_of (filter (λ x. is_among x.merge ns)
      (begun_merges h)))) ended'
      ∙ gens_either g (λ x. is_among x.merge ended) (λ x. nat_eq x.merge m.merge)
      (λ x. is_among x.merge (ended ++ m.merge ∷ [])) (begun_merges h)
      (λ x. list_any-append (nat_eq x.merge) ended (m.merge ∷ [])
      ∙ ap (λ (b : Bool). is_among x.merge ended || b) (or_none (nat_eq x.merge m.merge)))
      ∙ ap (λ (ms : List Merge). is_among g (replaced h) || is_among g (gens_of ms)) one
      ∙ ap (λ (gs : List ℕ). is_among g (replaced h) || is_among g gs) (append-nil m.generations)

  -- those that were drawn before
  left : filter (λ g. not (is_among g (replaced (h ++ e ∷ [])))) (drawn r)
      ≡ filter (λ g. not (is_among g m.generations)) (current r)
  left =
      filter_agree (λ g. not (is_among g (replaced (h ++ e ∷ []))))
      (λ g. not (is_among g (replaced h) || is_among g m.generations))
      (λ g. ap not (replaced-more g)) (drawn r)
      ∙ filter_both (λ g. is_among g (replaced h)) (λ g. is_among g m.generations) (drawn r)

-- where it brings nothing
pub current-after_none : (r : Record) (caller : ℕ) (m : Merge) (gone : List ℕ)
    → merges_of r m.merge ≡ m ∷ []
    → current (with_event r (merge_end caller m.merge None gone))
    ≡ filter (λ g. not (is_among g m.generations)) (current r)
current-after_none r caller m gone one =
    let e = merge_end caller m.merge None gone in
    ap (λ (gs : List ℕ). filter (λ g. not (is_among g (replaced (r.history ++ e ∷ [])))) gs)
    (skips drawn_generation r.history e refl)
    ∙ left r caller m None gone one

pub after_merge : CurrentAfterMerge
after_merge r caller m into gone one new other =
    let e = merge_end caller m.merge (Some into) gone in
    let test : ℕ → Bool = λ g. not (is_among g (replaced (r.history ++ e ∷ []))) in
    let out : is_among into (replaced (r.history ++ e ∷ [])) ≡ false =
    replaced-more r caller m (Some into) gone one into
    ∙ ap (λ (b : Bool). b || is_among into m.generations) new ∙ other in
    ap (filter test) (filter_map-append drawn_generation r.history (e ∷ []))
    ∙ filter-append test (drawn r) (into ∷ [])
    ∙ ap (λ (b : Bool). filter test (drawn r) ++ cond (not b) (into ∷ []) []) out
    ∙ ap (λ (gs : List ℕ). gs ++ into ∷ []) (left r caller m (Some into) gone one)

-- ---- who holds a document

-- a count, split by a second test
count_split : (t u : ℕ → Bool) (gs : List ℕ)
    → length (filter t gs)
    ≡ length (filter t (filter (λ g. not (u g)) gs)) + length (filter t (filter u gs))
count_split t u [] = refl
count_split t u (g ∷ gs) = by_tests (u g) (t g) refl (count_split t u gs)
  where
    by_tests : (b c : Bool) → t g ≡ c
        → length (filter t gs)
        ≡ length (filter t (filter (λ x. not (u x)) gs)) + length (filter t (filter u gs))
        → length (cond (t g) (g ∷ filter t gs) (filter t gs))
        ≡ length (filter t (cond (not b) (g ∷ filter (λ x. not (u x)) gs)
        (filter (λ x. not (u x)) gs)))
        + length (filter t (cond b (g ∷ filter u gs) (filter u gs)))
    by_tests true true is e' = rw is (omega (arith, e'))
    by_tests true false is e' = rw is e'
    by_tests false true is e' = rw is (omega (arith, e'))
    by_tests false false is e' = rw is e'

agree_on : (t u : ℕ → Bool) (gs : List ℕ) → AllByRecursion (λ g. t g ≡ u g) gs
    → filter t gs ≡ filter u gs
agree_on t u [] all = refl
agree_on t u (g ∷ gs) all =
    ap (λ (b : Bool). cond b (g ∷ filter t gs) (filter t gs)) all.0
    ∙ ap (λ (zs : List ℕ). cond (u g) (g ∷ zs) zs) (agree_on t u gs all.1)

all_map : (P Q : ℕ → Type 0) → ((g : ℕ) → P g → Q g) → (gs : List ℕ) → AllByRecursion P gs
    → AllByRecursion Q gs
all_map P Q f [] all = tt
all_map P Q f (g ∷ gs) all = (f g all.0, all_map P Q f gs all.1)

all_kept : (P : ℕ → Type 0) (p : ℕ → Bool) (gs : List ℕ) → AllByRecursion P gs
    → AllByRecursion P (filter p gs)
all_kept P p [] all = tt
all_kept P p (g ∷ gs) all = by_test (p g) (all_kept P p gs all.1)
  where
    by_test : (b : Bool) → AllByRecursion P (filter p gs)
        → AllByRecursion P (cond b (g ∷ filter p gs) (filter p gs))
    by_test true later = (all.0, later)
    by_test false later = later

-- one that is there and passes is counted
counted_one : (t u : ℕ → Bool) (g : ℕ) (gs : List ℕ) → is_among g gs ≡ true → t g ≡ true
    → u g ≡ true → 1 ≤ length (filter t (filter u gs))
counted_one t u g [] there tg ug = absurd (let no : false ≡ true = there in cc)
counted_one t u g (x ∷ xs) there tg ug =
    by_test (nat_eq g x) refl (λ h. counted_one t u g xs h tg ug)
  where
    more : (b : Bool) → 1 ≤ length (filter t (filter u xs))
        → 1 ≤ length (filter t (cond b (x ∷ filter u xs) (filter u xs)))
    more true h = by_one (t x) h
      where
        by_one : (b : Bool) → 1 ≤ length (filter t (filter u xs))
            → 1 ≤ length (cond b (x ∷ filter t (filter u xs)) (filter t (filter u xs)))
        by_one true h' = omega arith
        by_one false h' = h'
    more false h = h

    by_test : (b : Bool) → nat_eq g x ≡ b
        → (is_among g xs ≡ true → 1 ≤ length (filter t (filter u xs)))
        → 1 ≤ length (filter t (cond (u x) (x ∷ filter u xs) (filter u xs)))
    by_test true is again =
        let ux : u x ≡ true = sym (ap u (same_number g x is)) ∙ ug in
        let tx : t x ≡ true = sym (ap t (same_number g x is)) ∙ tg in
        rw ux (rw tx (omega arith))
    by_test false is again =
        more (u x) (again (ap (λ (b : Bool). b || is_among g xs) (sym is) ∙ there))

-- where the merge keeps a document, one of its generations holds it
source_holds : (hs gs : List ℕ) → list_any (λ g. is_among g gs) hs ≡ true
    → (g : ℕ) × (is_among g hs ≡ true) × (is_among g gs ≡ true)
source_holds [] gs is = absurd (let no : false ≡ true = is in cc)
source_holds (x ∷ hs) gs is = by_test (is_among x gs) refl (λ h. source_holds hs gs h)
  where
    itself : nat_eq x x ≡ true
    itself = grind (arith, nat_tests)

    or_true : (b : Bool) → (b || true) ≡ true
    or_true true = refl
    or_true false = refl

    by_test : (b : Bool) → is_among x gs ≡ b
        → (list_any (λ g. is_among g gs) hs ≡ true
        → (g : ℕ) × (is_among g hs ≡ true) × (is_among g gs ≡ true))
        → (g : ℕ) × (is_among g (x ∷ hs) ≡ true) × (is_among g gs ≡ true)
    by_test true here again = (x, ap (λ (b : Bool). b || is_among x hs) itself, here)
    by_test false here again =
        let there = again (ap (λ (b : Bool). b || list_any (λ g. is_among g gs) hs) (sym here) ∙ is)
        in (
          there.0,
          ap (λ (b : Bool). nat_eq there.0 x || b) there.1 ∙ or_true (nat_eq there.0 x),
          there.2,
        )

-- how many hold a document, of those that are left and with the one that is brought
module _ (r r' : Record) (m : Merge) (into : ℕ) (d : PlainNumbered)
    (inside : AllByRecursion (λ g. is_among g (current r) ≡ true) m.generations)
    (most : holding r d (current r) ≤ 1) where
  abbrev held : ℕ → Bool
  held g = is_among g (holders_of r d)

  abbrev kept : List ℕ
  kept = filter (λ g. not (is_among g m.generations)) (current r)

  and_first : (a b : Bool) → (a && b) ≡ true → a ≡ true
  and_first true b h = refl
  and_first false b h = h

  one_at_most : (b : Bool) → is_kept_by r.journal d (holders_of r d) m ≡ b
      → is_among into (holders_of r' d) ≡ is_kept_by r.journal d (holders_of r d) m
      → length (filter (λ g. is_among g (holders_of r' d)) kept) ≡ length (filter held kept)
      → holding r' d (kept ++ into ∷ []) ≤ 1
  one_at_most b keeps new old =
      let test : ℕ → Bool = λ g. is_among g (holders_of r' d) in
      let both = ap (λ (gs : List ℕ). length gs) (filter-append test kept (into ∷ []))
      ∙ length-append (filter test kept) (filter test (into ∷ [])) in
      let last = ap (λ (c : Bool). length (cond c (into ∷ []) [])) (new ∙ keeps) in
      let split = count_split held (λ g. is_among g m.generations) (current r) in
      by_test b keeps both last split
    where
      by_test : (c : Bool) → is_kept_by r.journal d (holders_of r d) m ≡ c
          → holding r' d (kept ++ into ∷ [])
          ≡ length (filter (λ g. is_among g (holders_of r' d)) kept)
          + length (filter (λ g. is_among g (holders_of r' d)) (into ∷ []))
          → length (filter (λ g. is_among g (holders_of r' d)) (into ∷ []))
          ≡ length (cond c (into ∷ []) [])
          → holding r d (current r)
          ≡ length (filter held kept)
          + length (filter held (filter (λ g. is_among g m.generations) (current r)))
          → holding r' d (kept ++ into ∷ []) ≤ 1
      by_test false keeps both last split = omega (arith, both, last, split, most, old)
      by_test true keeps both last split =
          let there = source_holds (holders_of r d) m.generations
          (and_first (list_any (λ g. is_among g m.generations) (holders_of r d))
          (not (is_deleted r.journal m.upto d)) keeps) in
          let some = counted_one held (λ g. is_among g m.generations) there.0 (current r)
          (all_among (λ g. is_among g (current r) ≡ true) there.0 m.generations inside there.2)
          there.1 there.2 in
          omega (arith, both, last, split, most, old, some)

pub one_holds : StillOneHolds
one_holds r caller m into gone d is less inside most =
    let e = merge_end caller m.merge (Some into) gone in
    let r' = with_event r e in
    let held : ℕ → Bool = λ g. is_among g (holders_of r d) in
    let held' : ℕ → Bool = λ g. is_among g (holders_of r' d) in
    let kept = filter (λ g. not (is_among g m.generations)) (current r) in
    let old : filter held' kept ≡ filter held kept =
    agree_on held' held kept (all_kept (λ g. held' g ≡ held g)
    (λ g. not (is_among g m.generations)) (current r)
    (all_map (λ g. g < into) (λ g. held' g ≡ held g)
    (λ g below. ap (is_among g) (holders_next r e is.known tt d)
    ∙ not_drawn r' e d (holders_of r d) g
    (λ same. absurd (let one : into ≡ g = cc in omega (arith, one, below))))
    (current r) less)) in
    one_at_most r r' m into d inside most (is_kept_by r.journal d (holders_of r d) m) refl
    (brought_holds r caller m into gone d is) (ap (λ (gs : List ℕ). length gs) old)
